-- Ways of so many steps, by marks.
use Rattle.std.proofs.Common.{◌≡◌, ◌<◌, ◌≤◌, ℕ, zero, suc, ◌+◌, nat_eq, Bool, true, false, List, [], ◌∷◌, Some, refl, sym, ap, ◌∙◌, arith, length, subst, replicate, ◌⊎◌, inl, inr}
use Rattle.std.specs.Prelude.{◌||◌, ◌&&◌, not, slice_set}
use Rattle.std.specs.Bool.{Decides}
use Rattle.std.specs.List.{list_any, slice_get}
use Rattle.std.proofs.lemmas.Bool.{eqb-true, eq-eqb}
use Rattle.st_rules.proofs.Booleans.{false≢true, none≢some, some-same, either, both, and-both, or-first, or-second, same-tests, Among, any-parts, any-among}
use Rattle.st_rules.proofs.LeadsLaws.{IsWithin}
use Rattle.st_unit_rules.specs.Cycles.{lies_on_cycle}
use Rattle.st_unit_rules.specs.Limits.{most_steps, has_way}
use Rattle.graph_reach.specs.declared.threads.Edge.{Edge}
use Rattle.graph_cycles.specs.Graph.{HasEdge, AreEdgesOf, AreWithin, LiesOnCycle, marked}
use Rattle.graph_cycles.proofs.CycleLaws.{marked_set, marked_none}
use Rattle.declared_graph.proofs.CycleLaws.{cycle_told}
use Rattle.check_limits.specs.base_limits.Private.Ways.{goes_on, leads_on}

-- ---- an edge of a list that leads on

record Onward (test : ℕ → Bool) (i : ℕ) (edges : List Edge) : Type 0 where
  at : ℕ
  to : ℕ
  is : slice_get edges at ≡ Some (record { from = i; to = to })
  passes : test to ≡ true

module _ (test : ℕ → Bool) (i : ℕ) where
  onward_there : (edges : List Edge) → list_any (leads_on test i) edges ≡ true → Onward test i edges
  onward_there [] h = absurd (false≢true h)
  onward_there (e ∷ es) h = elim (either (leads_on test i e) (list_any (leads_on test i) es) h) [
    | inl p ↦
        let q = both (nat_eq e.from i) (test e.to) p in
        record { at = 0; to = e.to; is = ap (λ n. Some (record { from = n; to = e.to })) (eqb-true e.from i q.0); passes = q.1 }
    | inr p ↦ let r : Onward test i es = onward_there es p in record { at = suc r.at; to = r.to; is = r.is; passes = r.passes }
  ]

  onward_found : (edges : List Edge) (at to : ℕ) → slice_get edges at ≡ Some (record { from = i; to = to }) → test to ≡ true → list_any (leads_on test i) edges ≡ true
  onward_found [] at to e m = absurd (none≢some e)
  onward_found (e ∷ es) zero to h m =
      let s : e ≡ record { from = i; to = to } = some-same h in
      or-first (leads_on test i e) (list_any (leads_on test i) es)
      (and-both (nat_eq e.from i) (test e.to) (eq-eqb e.from i (ap (λ (x : Edge). x.from) s)) (ap (λ (x : Edge). test x.to) s ∙ m))
  onward_found (e ∷ es) (suc at) to h m = or-second (leads_on test i e) (list_any (leads_on test i) es) (onward_found es at to h m)

-- what an edge leads to that passes, by what a node leads to
module _ (ahead : ℕ → List ℕ) (edges : List Edge) (count : ℕ) (test there : ℕ → Bool) (a : AreEdgesOf edges ahead) (w : AreWithin count edges) (m : (k : ℕ) → k < count → test k ≡ there k) where
  step_there : (i : ℕ) → list_any (leads_on test i) edges ≡ true → list_any there (ahead i) ≡ true
  step_there i h =
      let o : Onward test i edges = onward_there test i edges h in
      let e : HasEdge edges i o.to = record { at = o.at; is = o.is } in
      any-among there (ahead i) o.to ((a.told i o.to).1 e) (sym (m o.to (w.within o.at _ o.is).1) ∙ o.passes)

  step_found : (i : ℕ) → list_any there (ahead i) ≡ true → list_any (leads_on test i) edges ≡ true
  step_found i h =
      let r : Among there (ahead i) = any-parts there (ahead i) h in
      let e : HasEdge edges i r.number = (a.told i r.number).0 r.among in
      onward_found test i edges e.at r.number e.is (m r.number (w.within e.at _ e.is).1 ∙ r.passes)

  step_is : (i : ℕ) → list_any (leads_on test i) edges ≡ list_any there (ahead i)
  step_is i = same-tests _ _ (step_there i) (step_found i)

-- ---- edges one after the other

-- what the edges that were looked at mark, and those that are left
pub record Marks (count : ℕ) (test : ℕ → Bool) (edges left : List Edge) (next : List Bool) : Type 0 where
  pub long : length next ≡ count
  pub within : AreWithin count left
  pub told : (i : ℕ) → (marked next i || list_any (leads_on test i) left) ≡ list_any (leads_on test i) edges

behind_within : (n : ℕ) (e : Edge) (es : List Edge) → AreWithin n (e ∷ es) → AreWithin n es
behind_within n e es w = record { within = λ k f is. w.within (suc k) f is }

pub first_within : (n : ℕ) (left : List Edge) (e : Edge) (es : List Edge) → left ≡ e ∷ es → AreWithin n left → (e.from < n) × (e.to < n)
first_within n left e es s w = w.within 0 e (ap (λ (xs : List Edge). slice_get xs 0) s)

or_moved : (a b c : Bool) → ((a || b) || c) ≡ (a || (b || c))
or_moved true b c = refl
or_moved false b c = refl

or_nothing : (a b : Bool) → b ≡ false → (a || b) ≡ a
or_nothing true b h = refl
or_nothing false b h = h

and_true : (a b : Bool) → b ≡ true → (a && b) ≡ a
and_true true b h = h
and_true false b h = refl

and_false : (a b : Bool) → b ≡ false → (a && b) ≡ false
and_false true b h = h
and_false false b h = refl

module _ (count : ℕ) (test : ℕ → Bool) (edges : List Edge) where
  pub marks_begun : (next : List Bool) → next ≡ replicate count false → length next ≡ count → AreWithin count edges → Marks count test edges edges next
  marks_begun next e l w = record {
    long = l;
    within = w;
    told = λ i. ap (λ (b : Bool). b || list_any (leads_on test i) edges) (ap (λ (xs : List Bool). marked xs i) e ∙ marked_none count i);
  }

  module _ (left : List Edge) (e : Edge) (es : List Edge) (next : List Bool) (s : left ≡ e ∷ es) (t : Marks count test edges left next) where
    as_split : AreWithin count (e ∷ es)
    as_split = subst (λ (xs : List Edge). AreWithin count xs) s t.within

    told_split : (i : ℕ) → (marked next i || (leads_on test i e || list_any (leads_on test i) es)) ≡ list_any (leads_on test i) edges
    told_split i = ap (λ (xs : List Edge). marked next i || list_any (leads_on test i) xs) (sym s) ∙ t.told i

    pub marks_set : (more : List Bool) → test e.to ≡ true → more ≡ slice_set next e.from true → length more ≡ length next → Marks count test edges es more
    marks_set more m q l = record {
      long = l ∙ t.long;
      within = behind_within count e es as_split;
      told = λ i.
          let below : e.from < length next = subst (λ (n : ℕ). e.from < n) (sym t.long) (as_split.within 0 e refl).0 in
          ap (λ (b : Bool). b || list_any (leads_on test i) es) (ap (λ (xs : List Bool). marked xs i) q ∙ marked_set next e.from i below)
          ∙ or_moved (marked next i) (nat_eq e.from i) (list_any (leads_on test i) es)
          ∙ ap (λ (b : Bool). marked next i || (b || list_any (leads_on test i) es)) (sym (and_true (nat_eq e.from i) (test e.to) m))
          ∙ told_split i;
    }

    pub marks_passed : test e.to ≡ false → Marks count test edges es next
    marks_passed m = record {
      long = t.long;
      within = behind_within count e es as_split;
      told = λ i.
          ap (λ (b : Bool). marked next i || (b || list_any (leads_on test i) es)) (sym (and_false (nat_eq e.from i) (test e.to) m))
          ∙ told_split i;
    }

  pub marks_ended : (left : List Edge) (next : List Bool) → left ≡ [] → Marks count test edges left next → (i : ℕ) → marked next i ≡ list_any (leads_on test i) edges
  marks_ended left next s t i =
      sym (or_nothing (marked next i) (list_any (leads_on test i) left) (ap (λ (xs : List Edge). list_any (leads_on test i) xs) s)) ∙ t.told i

-- ---- so many steps

pub record AreWays (count : ℕ) (edges : List Edge) (n : ℕ) (marks : List Bool) : Type 0 where
  pub long : length marks ≡ count
  pub told : (ahead : ℕ → List ℕ) → AreEdgesOf edges ahead → (i : ℕ) → i < count → marked marks i ≡ has_way ahead count n i

all_marked : (n i : ℕ) → i < n → marked (replicate n true) i ≡ true
all_marked zero i h = absurd (omega arith)
all_marked (suc n) zero h = refl
all_marked (suc n) (suc i) h = all_marked n i (omega arith)

compare : (n i : ℕ) → (i < n) ⊎ (n ≤ i)
compare zero i = inr (omega arith)
compare (suc n) zero = inl (omega arith)
compare (suc n) (suc i) = elim (compare n i) [ inl p ↦ inl (omega arith) | inr p ↦ inr (omega arith) ]

past : (xs : List Bool) (i : ℕ) → length xs ≤ i → marked xs i ≡ false
past [] i h = refl
past (x ∷ xs) zero h = absurd (omega arith)
past (x ∷ xs) (suc i) h = past xs i (omega arith)

is_within : (ahead : ℕ → List ℕ) (edges : List Edge) (count : ℕ) → AreEdgesOf edges ahead → AreWithin count edges → IsWithin ahead count
is_within ahead edges count a w = record { within = λ i k h. (let e : HasEdge edges i k = (a.told i k).0 h in w.within e.at _ e.is) }

module _ (count : ℕ) (edges : List Edge) (w : AreWithin count edges) where
  pub ways_begun : (marks : List Bool) → marks ≡ replicate count true → length marks ≡ count → AreWays count edges 0 marks
  ways_begun marks e l = record { long = l; told = λ ahead a i h. ap (λ (xs : List Bool). marked xs i) e ∙ all_marked count i h }

  pub ways_next : (n : ℕ) (marks cycles next : List Bool) → ((ahead : ℕ → List ℕ) → AreEdgesOf edges ahead → (i : ℕ) → Decides (marked cycles i) (LiesOnCycle ahead i))
      → length next ≡ length marks → ((i : ℕ) → marked next i ≡ list_any (leads_on (goes_on marks cycles) i) edges) → AreWays count edges n marks → AreWays count edges (n + 1) next
  ways_next n marks cycles next c l h t = record { long = l ∙ t.long; told = λ ahead a i b. reached ahead a i }
    where
      z : suc n ≡ n + 1
      z = omega arith

      passes : (ahead : ℕ → List ℕ) → AreEdgesOf edges ahead → (k : ℕ) → k < count → goes_on marks cycles k ≡ (not (lies_on_cycle ahead count k) && has_way ahead count n k)
      passes ahead a k b =
          ap (λ (x : Bool). not x && marked marks k) (cycle_told ahead count (is_within ahead edges count a w) (marked cycles k) k (c ahead a k))
          ∙ ap (λ (x : Bool). not (lies_on_cycle ahead count k) && x) (t.told ahead a k b)

      reached : (ahead : ℕ → List ℕ) → AreEdgesOf edges ahead → (i : ℕ) → marked next i ≡ has_way ahead count (n + 1) i
      reached ahead a i =
          h i ∙ step_is ahead edges count (goes_on marks cycles) (λ k. not (lies_on_cycle ahead count k) && has_way ahead count n k) a w (passes ahead a) i ∙ ap (λ k. has_way ahead count k i) z

  pub ways_ended : (n : ℕ) (marks : List Bool) → n ≡ 65 → AreWays count edges n marks → (ahead : ℕ → List ℕ) → AreEdgesOf edges ahead → (i : ℕ) → marked marks i ≡ has_way ahead count (suc most_steps) i
  ways_ended n marks e t ahead a i = elim (compare count i) [
    | inl p ↦ t.told ahead a i p ∙ ap (λ k. has_way ahead count k i) e
    | inr p ↦ past marks i (subst (λ (k : ℕ). k ≤ i) (sym t.long) p) ∙ same-tests _ _ (λ h. absurd (false≢true h)) (no_way p)
  ]
    where
      no_way : count ≤ i → has_way ahead count (suc most_steps) i ≡ true → false ≡ true
      no_way p h =
          let r : Among (λ k. not (lies_on_cycle ahead count k) && has_way ahead count most_steps k) (ahead i) = any-parts (λ k. not (lies_on_cycle ahead count k) && has_way ahead count most_steps k) (ahead i) h in
          let e : HasEdge edges i r.number = (a.told i r.number).0 r.among in
          let q : i < count = (w.within e.at _ e.is).0 in
          absurd (omega arith)
