-- A node lies on a cycle of the nodes where it lies on one that goes through their hubs.
use Rattle.std.proofs.Common.{◌≡◌, ℕ, zero, suc, ◌+◌, ◌<◌, ◌≤◌, Bool, true, false, List, [], ◌∷◌, ◌++◌, Option, Some, None, map, length, refl, sym, ap, ◌∙◌, arith, ◌-◌, nat_eq, subst, take, inl, inr, append_assoc, length-append}
use Rattle.std.specs.Prelude.{nat_lt, if◌then◌else◌}
use Rattle.std.specs.List.{list_any}
use Rattle.std.proofs.lemmas.List.{length-map}
use Rattle.std.proofs.Math.Seq.{take-nil}
use Rattle.std.specs.Bool.{Decides}
use Rattle.std.specs.List.{slice_get}
use Rattle.std.specs.Option.{unwrap_or}
use Rattle.std.proofs.lemmas.Bool.{eqb-true, eq-eqb, ltb-true, ltb-false}
use Rattle.st_rules.specs.Chains.{is_among, leads_within, Leads, itself, onward}
use Rattle.st_rules.proofs.Booleans.{false≢true, none≢some, some-same, cases, either, or-first}
use Rattle.st_unit_rules.specs.Cycles.{lies_on_cycle}
use Rattle.graph_cycles.specs.Graph.{AreWithin, LiesOnCycle, marked}
use Rattle.declared_graph.specs.Private.Edges.{edges_from, out_at}
use Rattle.declared_graph.specs.Private.Shared.{first_nodes, hub_of, hub_outs, Shares, IsShared, AreHubs}
use Rattle.declared_graph.proofs.CycleLaws.{cycle_told}
use Rattle.declared_graph.proofs.EdgeLaws.{are_within, out_at_past}

-- the only one of a list
only : (k x : ℕ) → is_among k (x ∷ []) ≡ true → k ≡ x
only k x h = elim (either (nat_eq k x) false h) [ inl p ↦ eqb-true k x p | inr p ↦ absurd (false≢true p) ]

alone : (x : ℕ) → is_among x (x ∷ []) ≡ true
alone x = or-first (nat_eq x x) false (eq-eqb x x refl)

-- ---- ways through hubs

-- n nodes, each with a hub behind them, which leads to what its nodes lead to
pub record GoesByHubs (n : ℕ) (by ahead : ℕ → List ℕ) (hub : ℕ → ℕ) : Type 0 where
  pub below : (i : ℕ) → i < n → by i ≡ (n + hub i) ∷ []
  pub shared : (i : ℕ) → i < n → by (n + hub i) ≡ ahead i
  pub within : (i k : ℕ) → is_among k (ahead i) ≡ true → (i < n) × (k < n)

-- a step, and a way behind it
record Begins (ahead : ℕ → List ℕ) (i j : ℕ) : Type 0 where
  next : ℕ
  edge : is_among next (ahead i) ≡ true
  rest : Leads ahead next j

module _ (n : ℕ) (by ahead : ℕ → List ℕ) (hub : ℕ → ℕ) (g : GoesByHubs n by ahead hub) where
  to_hub : (i : ℕ) → i < n → is_among (n + hub i) (by i) ≡ true
  to_hub i l = subst (λ (xs : List ℕ). is_among (n + hub i) xs ≡ true) (sym (g.below i l)) (alone (n + hub i))

  from_hub : (i k : ℕ) → i < n → is_among k (ahead i) ≡ true → is_among k (by (n + hub i)) ≡ true
  from_hub i k l e = subst (λ (xs : List ℕ). is_among k xs ≡ true) (sym (g.shared i l)) e

  forth : (i j : ℕ) → Leads ahead i j → Leads by i j
  forth _ _ (itself i) = itself i
  forth _ _ (onward i k j e r) = let l = (g.within i k e).0 in onward i (n + hub i) j (to_hub i l) (onward (n + hub i) k j (from_hub i k l e) (forth k j r))

  record Back (x j : ℕ) : Type 0 where
    of_node : x < n → Leads ahead x j
    of_hub : (i : ℕ) → i < n → x ≡ n + hub i → Begins ahead i j

  back : (x j : ℕ) → j < n → Leads by x j → Back x j
  back _ _ l (itself j) = record { of_node = λ b. itself j; of_hub = λ i b e. absurd (omega arith) }
  back _ _ l (onward x k j e r) =
      let rest : Back k j = back k j l r in
      record {
        of_node = λ b.
            let is : k ≡ n + hub x = only k (n + hub x) (subst (λ (xs : List ℕ). is_among k xs ≡ true) (g.below x b) e) in
            let s : Begins ahead x j = rest.of_hub x b is in
            onward x s.next j s.edge s.rest;
        of_hub = λ i b is.
            let among : is_among k (ahead i) ≡ true = subst (λ (xs : List ℕ). is_among k xs ≡ true) (ap by is ∙ g.shared i b) e in
            record { next = k; edge = among; rest = rest.of_node (g.within i k among).1 };
      }

  there : (i : ℕ) → i < n → LiesOnCycle by i → LiesOnCycle ahead i
  there i l c =
      let is : c.next ≡ n + hub i = only c.next (n + hub i) (subst (λ (xs : List ℕ). is_among c.next xs ≡ true) (g.below i l) c.edge) in
      let s : Begins ahead i i = (back c.next i l c.back).of_hub i l is in
      record { next = s.next; edge = s.edge; back = s.rest }

  here : (i : ℕ) → i < n → LiesOnCycle ahead i → LiesOnCycle by i
  here i l c = record { next = n + hub i; edge = to_hub i l; back = onward (n + hub i) c.next i (from_hub i c.next l c.edge) (forth c.next i c.back) }

  pub by_hubs : (b : Bool) (i : ℕ) → i < n → Decides b (LiesOnCycle by i) → Decides b (LiesOnCycle ahead i)
  by_hubs b i l d = (λ h. there i l (d.0 h), λ c. d.1 (here i l c))

-- ---- the hubs of nodes that share

-- the hub of a node, behind those before it
record HasHub (all : List (List ℕ)) (h : ℕ) (given : List ℕ) : Type 0 where
  is : out_at all h ≡ given

-- what was before gives what its hub gives
abbrev HubBefore : List (List ℕ) → ℕ → Option (List ℕ) → Type 0
HubBefore all h None = Unit {0}
HubBefore all h (Some given) = HasHub all h given

out_at_next : (done : List (List ℕ)) (o : List ℕ) (os : List (List ℕ)) → out_at (done ++ o ∷ os) (length done) ≡ o
unfolding out_at
out_at_next [] o os = refl
out_at_next (d ∷ done) o os = out_at_next done o os

more_done : (done : List (List ℕ)) (o : List ℕ) → length (done ++ o ∷ []) ≡ suc (length done)
more_done done o = length-append done (o ∷ []) ∙ (omega arith)

hub_shares : (bs : List Bool) (done os gs : List (List ℕ)) (h : ℕ) (before : Option (List ℕ)) → HubBefore (done ++ os) h before → Shares before bs os gs
    → (k x : ℕ) (given : List ℕ) → slice_get (first_nodes h (length done) bs) k ≡ Some x → slice_get gs k ≡ Some given → out_at (done ++ os) x ≡ given
hub_shares [] done [] [] h before hb s k x given e f = absurd (none≢some e)
hub_shares [] done [] (g ∷ gs) h before hb s k x given e f = absurd s
hub_shares [] done (o ∷ os) gs h before hb s k x given e f = absurd s
hub_shares (true ∷ bs) done [] gs h before hb s k x given e f = absurd s
hub_shares (true ∷ bs) done (o ∷ os) [] h before hb s k x given e f = absurd s
hub_shares (true ∷ bs) done (o ∷ os) (g ∷ gs) h before hb s zero x given e f = ap (out_at (done ++ o ∷ os)) (sym (some-same e)) ∙ out_at_next done o os ∙ s.0 ∙ some-same f
hub_shares (true ∷ bs) done (o ∷ os) (g ∷ gs) h before hb s (suc k) x given e f =
    let assoc : (done ++ o ∷ []) ++ os ≡ done ++ o ∷ os = append_assoc done (o ∷ []) os in
    let here : HasHub ((done ++ o ∷ []) ++ os) (length done) g = record { is = ap (λ xs. out_at xs (length done)) assoc ∙ out_at_next done o os ∙ s.0 } in
    ap (λ xs. out_at xs x) (sym assoc)
    ∙ hub_shares bs (done ++ o ∷ []) os gs (length done) (Some g) here s.1 k x given (ap (λ m. slice_get (first_nodes (length done) m bs) k) (more_done done o) ∙ e) f
hub_shares (false ∷ bs) done [] gs h before hb s k x given e f = absurd s
hub_shares (false ∷ bs) done (o ∷ os) [] h before hb s k x given e f = absurd s
hub_shares (false ∷ bs) done (o ∷ os) (g ∷ gs) h before hb s zero x given e f =
    ap (out_at (done ++ o ∷ os)) (sym (some-same e)) ∙ (subst (λ (b : Option (List ℕ)). HubBefore (done ++ o ∷ os) h b) s.0 hb).is ∙ some-same f
hub_shares (false ∷ bs) done (o ∷ os) (g ∷ gs) h before hb s (suc k) x given e f =
    let assoc : (done ++ o ∷ []) ++ os ≡ done ++ o ∷ os = append_assoc done (o ∷ []) os in
    let same : HasHub (done ++ o ∷ os) h g = subst (λ (b : Option (List ℕ)). HubBefore (done ++ o ∷ os) h b) s.0 hb in
    let here : HasHub ((done ++ o ∷ []) ++ os) h g = record { is = ap (λ xs. out_at xs h) assoc ∙ same.is } in
    ap (λ xs. out_at xs x) (sym assoc)
    ∙ hub_shares bs (done ++ o ∷ []) os gs h (Some g) here s.1 k x given (ap (λ m. slice_get (first_nodes h m bs) k) (more_done done o) ∙ e) f

-- ---- lengths and places

pub shares_length : (bs : List Bool) (os gs : List (List ℕ)) (before : Option (List ℕ)) → Shares before bs os gs → length gs ≡ length bs
shares_length [] [] [] before s = refl
shares_length [] [] (g ∷ gs) before s = absurd s
shares_length [] (o ∷ os) gs before s = absurd s
shares_length (true ∷ bs) [] gs before s = absurd s
shares_length (true ∷ bs) (o ∷ os) [] before s = absurd s
shares_length (true ∷ bs) (o ∷ os) (g ∷ gs) before s = ap suc (shares_length bs os gs (Some g) s.1)
shares_length (false ∷ bs) [] gs before s = absurd s
shares_length (false ∷ bs) (o ∷ os) [] before s = absurd s
shares_length (false ∷ bs) (o ∷ os) (g ∷ gs) before s = ap suc (shares_length bs os gs (Some g) s.1)

first_length : (bs : List Bool) (h i : ℕ) → length (first_nodes h i bs) ≡ length bs
first_length [] h i = refl
first_length (b ∷ bs) h i = ap suc (first_length bs (if b then i else h) (suc i))

at_most : (b : Bool) (h i : ℕ) → h ≤ i → (if b then i else h) ≤ i
at_most true h i l = omega arith
at_most false h i l = l

first_bound : (bs : List Bool) (h i k x : ℕ) → h ≤ i → slice_get (first_nodes h i bs) k ≡ Some x → x ≤ i + k
first_bound [] h i k x l e = absurd (none≢some e)
first_bound (b ∷ bs) h i zero x l e = let s : (if b then i else h) ≡ x = some-same e in let m = at_most b h i l in omega arith
first_bound (b ∷ bs) h i (suc k) x l e =
    let m = at_most b h i l in
    let r : x ≤ suc i + k = first_bound bs (if b then i else h) (suc i) k x (omega arith) e in
    omega arith

number_at : List ℕ → ℕ → ℕ
number_at xs i = unwrap_or (slice_get xs i) 0

number_there : (xs : List ℕ) (i : ℕ) → i < length xs → slice_get xs i ≡ Some (number_at xs i)
unfolding number_at
number_there [] i l = absurd (omega arith)
number_there (x ∷ xs) zero l = refl
number_there (x ∷ xs) (suc i) l = number_there xs i (omega arith)

list_there : (xs : List (List ℕ)) (i : ℕ) → i < length xs → slice_get xs i ≡ Some (out_at xs i)
unfolding out_at
list_there [] i l = absurd (omega arith)
list_there (x ∷ xs) zero l = refl
list_there (x ∷ xs) (suc i) l = list_there xs i (omega arith)

out_of_map : (f : ℕ → List ℕ) (xs : List ℕ) (more : List (List ℕ)) (i : ℕ) → i < length xs → out_at (map f xs ++ more) i ≡ f (number_at xs i)
unfolding out_at number_at
out_of_map f [] more i l = absurd (omega arith)
out_of_map f (x ∷ xs) more zero l = refl
out_of_map f (x ∷ xs) more (suc i) l = out_of_map f xs more i (omega arith)

out_past : (xs : List (List ℕ)) (i : ℕ) → length xs ≤ i → out_at xs i ≡ []
unfolding out_at
out_past [] i l = refl
out_past (x ∷ xs) zero l = absurd (omega arith)
out_past (x ∷ xs) (suc i) l = out_past xs i (omega arith)

pub out_within : (xs : List (List ℕ)) (i k : ℕ) → is_among k (out_at xs i) ≡ true → i < length xs
out_within xs i k h = elim (cases (nat_lt i (length xs))) [
  | inl p ↦ ltb-true i (length xs) p
  | inr p ↦ absurd (false≢true (sym (ap (is_among k) (out_past xs i (ltb-false i (length xs) p))) ∙ h))
]

-- ---- the nodes with their hubs

module _ (flags : List Bool) (outs gives : List (List ℕ)) where
  all : List (List ℕ)
  all = hub_outs flags ++ outs

  hub : ℕ → ℕ
  hub i = number_at (first_nodes 0 0 flags) i

  pub hubs_length : length (hub_outs flags) ≡ length flags
  hubs_length = length-map (first_nodes 0 0 flags) (hub_of (length flags)) ∙ first_length flags 0 0

  hub_is : (i : ℕ) → i < length flags → out_at all i ≡ (length flags + hub i) ∷ []
  unfolding all hub
  hub_is i l = let m : length (first_nodes 0 0 flags) ≡ length flags = first_length flags 0 0 in out_of_map (hub_of (length flags)) (first_nodes 0 0 flags) outs i (omega arith)

  behind : (h : ℕ) → out_at all (length flags + h) ≡ out_at outs h
  unfolding all
  behind h = ap (λ m. out_at (hub_outs flags ++ outs) (m + h)) (sym hubs_length) ∙ out_at_past (hub_outs flags) outs h

  goes : IsShared flags outs gives → GoesByHubs (length flags) (out_at all) (out_at gives) hub
  unfolding all hub
  goes s = record {
    below = hub_is;
    shared = λ i l.
        let m : length (first_nodes 0 0 flags) ≡ length flags = first_length flags 0 0 in
        let g : length gives ≡ length flags = shares_length flags outs gives None s.shares in
        behind (hub i) ∙ hub_shares flags [] outs gives 0 None tt s.shares i (hub i) (out_at gives i) (number_there (first_nodes 0 0 flags) i (omega arith)) (list_there gives i (omega arith));
    within = λ i k h. let g : length gives ≡ length flags = shares_length flags outs gives None s.shares in let l : i < length gives = out_within gives i k h in (omega arith, s.below.below i k h);
  }

  pub hubs_within : AreHubs flags outs → AreWithin (length flags + length flags) (edges_from 0 (hub_outs flags ++ outs))
  unfolding all hub
  hubs_within a = are_within (length flags + length flags) (hub_outs flags ++ outs) each
    where
      low : (i k : ℕ) → is_among k (out_at (hub_outs flags ++ outs) i) ≡ true → i < length flags → (i < length flags + length flags) × (k < length flags + length flags)
      low i k h l =
          let m : length (first_nodes 0 0 flags) ≡ length flags = first_length flags 0 0 in
          let is : k ≡ length flags + hub i = only k (length flags + hub i) (subst (λ (xs : List ℕ). is_among k xs ≡ true) (hub_is i l) h) in
          let b : hub i ≤ 0 + i = first_bound flags 0 0 i (hub i) (omega arith) (number_there (first_nodes 0 0 flags) i (omega arith)) in
          (omega arith, omega arith)

      high : (i j k : ℕ) → is_among k (out_at (hub_outs flags ++ outs) i) ≡ true → i ≡ length flags + j → (i < length flags + length flags) × (k < length flags + length flags)
      high i j k h e =
          let o : is_among k (out_at outs j) ≡ true = subst (λ (xs : List ℕ). is_among k xs ≡ true) (ap (out_at (hub_outs flags ++ outs)) e ∙ behind j) h in
          let l : j < length outs = out_within outs j k o in
          let n : length outs ≡ length flags = a.as_many in
          let b : k < length flags = a.below.below j k o in
          (omega arith, omega arith)

      each : (i k : ℕ) → is_among k (out_at (hub_outs flags ++ outs) i) ≡ true → (i < length flags + length flags) × (k < length flags + length flags)
      each i k h = elim (cases (nat_lt i (length flags))) [
        | inl p ↦ low i k h (ltb-true i (length flags) p)
        | inr p ↦ let b : length flags ≤ i = ltb-false i (length flags) p in let z : i ≡ length flags + (i - length flags) = omega arith in high i (i - length flags) k h z
      ]

  marked_take : (marks : List Bool) (n i : ℕ) → i < n → marked (take n marks) i ≡ marked marks i
  marked_take [] n i l = ap (λ (xs : List Bool). marked xs i) (take-nil n)
  marked_take (m ∷ ms) zero i l = absurd (omega arith)
  marked_take (m ∷ ms) (suc n) zero l = refl
  marked_take (m ∷ ms) (suc n) (suc i) l = marked_take ms n i (omega arith)

  not_taken : (marks : List Bool) (n i : ℕ) → n ≤ i → marked (take n marks) i ≡ false
  not_taken [] n i l = ap (λ (xs : List Bool). marked xs i) (take-nil n)
  not_taken (m ∷ ms) zero i l = refl
  not_taken (m ∷ ms) (suc n) zero l = absurd (omega arith)
  not_taken (m ∷ ms) (suc n) (suc i) l = not_taken ms n i (omega arith)

  pub hub_cycles : IsShared flags outs gives → (marks : List Bool) → ((i : ℕ) → Decides (marked marks i) (LiesOnCycle (out_at (hub_outs flags ++ outs)) i))
      → (i : ℕ) → marked (take (length flags) marks) i ≡ lies_on_cycle (out_at gives) (length flags) i
  unfolding all hub
  hub_cycles s marks d i = elim (cases (nat_lt i (length flags))) [
    | inl p ↦ inside (ltb-true i (length flags) p)
    | inr p ↦ outside (ltb-false i (length flags) p)
  ]
    where
      inside : i < length flags → marked (take (length flags) marks) i ≡ lies_on_cycle (out_at gives) (length flags) i
      inside l =
          marked_take marks (length flags) i l
          ∙ cycle_told (out_at gives) (length flags) (record { within = (goes s).within }) (marked marks i) i
          (by_hubs (length flags) (out_at all) (out_at gives) hub (goes s) (marked marks i) i l (d i))

      outside : length flags ≤ i → marked (take (length flags) marks) i ≡ lies_on_cycle (out_at gives) (length flags) i
      outside l =
          let g : length gives ≡ length flags = shares_length flags outs gives None s.shares in
          not_taken marks (length flags) i l ∙ sym (ap (list_any (λ k. leads_within (out_at gives) (length flags) k i)) (out_past gives i (omega arith)))
