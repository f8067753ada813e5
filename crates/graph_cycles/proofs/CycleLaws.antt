-- Where a hint is right, a node lies on a cycle exactly where an edge from it stays within its group.
use Rattle.std.proofs.Common.{◌≡◌, ◌<◌, ◌≤◌, ℕ, zero, suc, ◌+◌, nat_eq, Bool, true, false, List, [], ◌∷◌, Option, Some, None, refl, sym, ap, ◌∙◌, arith, length, subst, ◌⊎◌, inl, inr}
use Rattle.std.specs.Prelude.{nat_lt, ◌||◌, ◌&&◌}
use Rattle.std.specs.Bool.{Decides}
use Rattle.std.specs.List.{list_all, list_any, slice_get}
use Rattle.std.proofs.lemmas.Bool.{eqb-true, eq-eqb}
use Rattle.std.proofs.lemmas.Bool.Decides.{nat_tests}
use Rattle.graph_reach.specs.declared.threads.Edge.{Edge}
use Rattle.graph_cycles.specs.declared.places.Node.{Node}
use Rattle.std.proofs.Common.{replicate}
use Rattle.std.specs.Prelude.{slice_set}
use Rattle.std.proofs.lemmas.Option.{slice_get_within}
use Rattle.graph_cycles.specs.Graph.{HasEdge, marked}
use Rattle.graph_cycles.specs.Private.Ways.{Way, along, onward, IsTurning}
use Rattle.graph_cycles.specs.Private.Places.{falls_by, falls, stays_by, stays, stays_from, ahead_place, ahead_edge, ahead, behind_place, behind_edge, behind, rooted, all_rooted, AreRight}

-- tests

both : (a b : Bool) → (a && b) ≡ true → (a ≡ true) × (b ≡ true)
both true b h = (refl, h)
both false b h = absurd (no h)
  where
    no : false ≡ true → ⊥
    no = λ x. cc x

pub either_of : (a b : Bool) → (a || b) ≡ true → (a ≡ true) ⊎ (b ≡ true)
either_of true b h = inl refl
either_of false b h = inr h

second : (a b : Bool) → b ≡ true → (a || b) ≡ true
second true b h = refl
second false b h = h

no_false : false ≡ true → ⊥
no_false h = cc

no_none : {A : Type 0} (x : A) → None ≡ Some x → ⊥
no_none x h = cc

-- lists

pub all_at : {A : Type 0} (f : A → Bool) (xs : List A) (k : ℕ) (x : A) → list_all f xs ≡ true → slice_get xs k ≡ Some x → f x ≡ true
all_at f [] k x h e = absurd (no_none x e)
all_at f (y ∷ ys) zero x h e = let q : y ≡ x = cc e in ap f (sym q) ∙ (both (f y) (list_all f ys) h).0
all_at f (y ∷ ys) (suc k) x h e = all_at f ys k x ((both (f y) (list_all f ys) h).1) e

pub any_at : {A : Type 0} (f : A → Bool) (xs : List A) (k : ℕ) (x : A) → slice_get xs k ≡ Some x → f x ≡ true → list_any f xs ≡ true
any_at f [] k x e h = absurd (no_none x e)
any_at f (y ∷ ys) zero x e h = let q : y ≡ x = cc e in ap (λ b. b || list_any f ys) (ap f q ∙ h)
any_at f (y ∷ ys) (suc k) x e h = second (f y) (list_any f ys) (any_at f ys k x e h)

pub record Found {A : Type 0} (f : A → Bool) (xs : List A) : Type 0 where
  pub place : ℕ
  pub item : A
  pub is : slice_get xs place ≡ Some item
  pub holds : f item ≡ true

pub any_parts : {A : Type 0} (f : A → Bool) (xs : List A) → list_any f xs ≡ true → Found f xs
any_parts f [] h = absurd (no_false h)
any_parts f (y ∷ ys) h = elim (either_of (f y) (list_any f ys) h) [
  | inl p ↦ record { place = 0; item = y; is = refl; holds = p }
  | inr p ↦ let r : Found f ys = any_parts f ys p in record { place = suc r.place; item = r.item; is = r.is; holds = r.holds }
]

-- groups and roots

abbrev group_by : Option Node → ℕ
group_by None = 0
group_by (Some p) = p.group

falls_down : (o p : Option Node) → falls_by o p ≡ true → group_by p ≤ group_by o
falls_down None p h = absurd (no_false h)
falls_down (Some p) None h = absurd (no_false h)
falls_down (Some p) (Some q) h = grind (arith, nat_tests)

falls_stays : (o p : Option Node) → falls_by o p ≡ true → group_by o ≤ group_by p → stays_by o p ≡ true
falls_stays None p h g = absurd (no_false h)
falls_stays (Some p) None h g = absurd (no_false h)
falls_stays (Some p) (Some q) h g = grind (arith, nat_tests)

record Stays (places : List Node) (i j : ℕ) : Type 0 where
  from : Node
  to : Node
  from_is : slice_get places i ≡ Some from
  to_is : slice_get places j ≡ Some to
  same : to.root ≡ from.root

stays_parts : (places : List Node) (i j : ℕ) (o p : Option Node) → slice_get places i ≡ o → slice_get places j ≡ p → stays_by o p ≡ true → Stays places i j
stays_parts places i j None p e f h = absurd (no_false h)
stays_parts places i j (Some p) None e f h = absurd (no_false h)
stays_parts places i j (Some p) (Some q) e f h = record { from = p; to = q; from_is = e; to_is = f; same = eqb-true q.root p.root h }

-- the next node on the way to the root, or from it
record Next (places : List Node) (steps : Node → ℕ) (p : Node) (Edged : ℕ → Type 0) : Type 0 where
  node : ℕ
  edged : Edged node
  place : Node
  is : slice_get places node ≡ Some place
  same : place.root ≡ p.root
  fewer : steps place < steps p

module _ (edges : List Edge) where
  pub snoc : (i j k : ℕ) → Way edges i j → HasEdge edges j k → Way edges i k
  snoc _ _ k (along i j e) f = onward i j k e (along j k f)
  snoc _ _ k (onward i m j e r) f = onward i m k e (snoc m j k r f)

  pub chained : (i j k : ℕ) → Way edges i j → Way edges j k → Way edges i k
  chained _ _ k (along i j e) q = onward i j k e q
  chained _ _ k (onward i m j e r) q = onward i m k e (chained m j k r q)

module _ (edges : List Edge) (places : List Node) where
  edge_is : (k i j : ℕ) (e : Edge) → slice_get edges k ≡ Some e → e.from ≡ i → e.to ≡ j → HasEdge edges i j
  edge_is k i j e h f t =
      let from : ℕ → Option Edge = λ n. Some (record { from = n; to = e.to }) in
      let to : ℕ → Option Edge = λ n. Some (record { from = i; to = n }) in
      record { at = k; is = h ∙ ap from f ∙ ap to t }

  ahead_at : (i : ℕ) (p : Node) (k : ℕ) (e : Edge) → slice_get edges k ≡ Some e → (o : Option Node) → slice_get places e.to ≡ o → ahead_place e i p o ≡ true → Next places (λ p. p.ahead_steps) p (λ j. HasEdge edges i j)
  ahead_at i p k e g None f h = absurd (no_false h)
  ahead_at i p k e g (Some q) f h =
      let a = both (nat_eq e.from i && nat_eq q.root p.root) (nat_lt q.ahead_steps p.ahead_steps) h in
      let b = both (nat_eq e.from i) (nat_eq q.root p.root) (a.0) in
      record { node = e.to; edged = edge_is k i e.to e g (eqb-true e.from i (b.0)) refl; place = q; is = f; same = eqb-true q.root p.root (b.1); fewer = grind (arith, nat_tests) }

  ahead_parts : (i : ℕ) (p : Node) (o : Option Edge) → slice_get edges p.ahead ≡ o → ahead_edge places i p o ≡ true → Next places (λ p. p.ahead_steps) p (λ j. HasEdge edges i j)
  ahead_parts i p None g h = absurd (no_false h)
  ahead_parts i p (Some e) g h = ahead_at i p p.ahead e g (slice_get places e.to) refl h

  behind_at : (i : ℕ) (p : Node) (k : ℕ) (e : Edge) → slice_get edges k ≡ Some e → (o : Option Node) → slice_get places e.from ≡ o → behind_place e i p o ≡ true → Next places (λ p. p.behind_steps) p (λ j. HasEdge edges j i)
  behind_at i p k e g None f h = absurd (no_false h)
  behind_at i p k e g (Some q) f h =
      let a = both (nat_eq e.to i && nat_eq q.root p.root) (nat_lt q.behind_steps p.behind_steps) h in
      let b = both (nat_eq e.to i) (nat_eq q.root p.root) (a.0) in
      record { node = e.from; edged = edge_is k e.from i e g refl (eqb-true e.to i (b.0)); place = q; is = f; same = eqb-true q.root p.root (b.1); fewer = grind (arith, nat_tests) }

  behind_parts : (i : ℕ) (p : Node) (o : Option Edge) → slice_get edges p.behind ≡ o → behind_edge places i p o ≡ true → Next places (λ p. p.behind_steps) p (λ j. HasEdge edges j i)
  behind_parts i p None g h = absurd (no_false h)
  behind_parts i p (Some e) g h = behind_at i p p.behind e g (slice_get places e.from) refl h

  rooted_at : (m : ℕ) (ps : List Node) (k : ℕ) (p : Node) → all_rooted edges places m ps ≡ true → slice_get ps k ≡ Some p → rooted edges places (m + k) p ≡ true
  rooted_at m [] k p h e = absurd (no_none p e)
  rooted_at m (q ∷ qs) zero p h e =
      let s : m + zero ≡ m = omega arith in
      let t : q ≡ p = cc e in
      subst (λ (n : ℕ). rooted edges places n p ≡ true) (sym s) (subst (λ (r : Node). rooted edges places m r ≡ true) t ((both (rooted edges places m q) (all_rooted edges places (m + 1) qs) h).0))
  rooted_at m (q ∷ qs) (suc k) p h e =
      let s : m + 1 + k ≡ m + suc k = omega arith in
      subst (λ (n : ℕ). rooted edges places n p ≡ true) s (rooted_at (m + 1) qs k p ((both (rooted edges places m q) (all_rooted edges places (m + 1) qs) h).1) e)

  begun : (i j r : ℕ) → HasEdge edges i j → (j ≡ r) ⊎ Way edges j r → Way edges i r
  begun i j r e (inl q) = subst (λ (n : ℕ). Way edges i n) q (along i j e)
  begun i j r e (inr q) = onward i j r e q

  ended : (i j r : ℕ) → (r ≡ j) ⊎ Way edges r j → HasEdge edges j i → Way edges r i
  ended i j r (inl q) e = subst (λ (n : ℕ). Way edges n i) (sym q) (along j i e)
  ended i j r (inr q) e = snoc edges r j i q e

  module _ (right : AreRight edges places) where
    rooted_node : (i : ℕ) (p : Node) → slice_get places i ≡ Some p → rooted edges places i p ≡ true
    rooted_node i p e = let s : 0 + i ≡ i = omega arith in subst (λ (n : ℕ). rooted edges places n p ≡ true) s (rooted_at 0 places i p right.rooting e)

    to_root : (n i : ℕ) (p : Node) → slice_get places i ≡ Some p → p.ahead_steps < n → (i ≡ p.root) ⊎ Way edges i p.root
    to_root zero i p e h = absurd (omega arith)
    to_root (suc n) i p e h = elim (either_of (nat_eq i p.root) (ahead edges places i p && behind edges places i p) (rooted_node i p e)) [
      | inl q ↦ inl (eqb-true i p.root q)
      | inr q ↦
          let x : Next places (λ p. p.ahead_steps) p (λ j. HasEdge edges i j) = ahead_parts i p (slice_get edges p.ahead) refl ((both (ahead edges places i p) (behind edges places i p) q).0) in
          let s : x.place.ahead_steps < n = let f = x.fewer in omega arith in
          inr (subst (λ (r : ℕ). Way edges i r) x.same (begun i x.node x.place.root x.edged (to_root n x.node x.place x.is s)))
    ]

    from_root : (n i : ℕ) (p : Node) → slice_get places i ≡ Some p → p.behind_steps < n → (p.root ≡ i) ⊎ Way edges p.root i
    from_root zero i p e h = absurd (omega arith)
    from_root (suc n) i p e h = elim (either_of (nat_eq i p.root) (ahead edges places i p && behind edges places i p) (rooted_node i p e)) [
      | inl q ↦ inl (sym (eqb-true i p.root q))
      | inr q ↦
          let x : Next places (λ p. p.behind_steps) p (λ j. HasEdge edges j i) = behind_parts i p (slice_get edges p.behind) refl ((both (ahead edges places i p) (behind edges places i p) q).1) in
          let s : x.place.behind_steps < n = let f = x.fewer in omega arith in
          inr (subst (λ (r : ℕ). Way edges r i) x.same (ended i x.node x.place.root (from_root n x.node x.place x.is s) x.edged))
    ]

    edge_falls : (i j : ℕ) → HasEdge edges i j → falls places (record { from = i; to = j }) ≡ true
    edge_falls i j e = all_at (falls places) edges e.at _ right.falling e.is

    path_falls : (i k : ℕ) → Way edges i k → group_by (slice_get places k) ≤ group_by (slice_get places i)
    path_falls _ _ (along i k e) = falls_down (slice_get places i) (slice_get places k) (edge_falls i k e)
    path_falls _ _ (onward i j k e r) = let a = path_falls j k r in let b = falls_down (slice_get places i) (slice_get places j) (edge_falls i j e) in omega arith

    -- the first edge of a path to where the group is no lower stays within the group
    edge_stays : (i j : ℕ) → HasEdge edges i j → group_by (slice_get places i) ≤ group_by (slice_get places j) → list_any (stays_from places i) edges ≡ true
    edge_stays i j e h = any_at (stays_from places i) edges e.at _ e.is (joint (falls_stays (slice_get places i) (slice_get places j) (edge_falls i j e) h) (eq-eqb i i refl))
      where
        joint : {a b : Bool} → a ≡ true → b ≡ true → (a && b) ≡ true
        joint {a} {b} p q = ap (λ x. x && b) p ∙ q

    first_stays : (i k : ℕ) → Way edges i k → group_by (slice_get places i) ≤ group_by (slice_get places k) → list_any (stays_from places i) edges ≡ true
    first_stays _ _ (along i k e) h = edge_stays i k e h
    first_stays _ _ (onward i j k e r) h =
        let d = path_falls j k r in
        edge_stays i j e (omega arith)

    comes_back : (i j : ℕ) → HasEdge edges i j → Stays places i j → IsTurning edges i
    comes_back i j e s =
        let there : (j ≡ s.to.root) ⊎ Way edges j s.to.root = to_root (suc s.to.ahead_steps) j s.to s.to_is (omega arith) in
        let back : (s.from.root ≡ i) ⊎ Way edges s.from.root i = from_root (suc s.from.behind_steps) i s.from s.from_is (omega arith) in
        closed back (subst (λ (r : ℕ). Way edges i r) s.same (begun i j s.to.root e there))
      where
        closed : {r : ℕ} → (r ≡ i) ⊎ Way edges r i → Way edges i r → Way edges i i
        closed {r} (inl q) p = subst (λ (n : ℕ). Way edges i n) q p
        closed {r} (inr q) p = chained edges i r i p q

    pub decided : (i : ℕ) → Decides (list_any (stays_from places i) edges) (IsTurning edges i)
    decided i = (found, λ p. first_stays i i p (omega arith))
      where
        found : list_any (stays_from places i) edges ≡ true → IsTurning edges i
        found h =
            let r : Found (stays_from places i) edges = any_parts (stays_from places i) edges h in
            let b = both (stays places r.item) (nat_eq r.item.from i) r.holds in
            let f : r.item.from ≡ i = eqb-true r.item.from i (b.1) in
            subst (λ (n : ℕ). IsTurning edges n) f (comes_back r.item.from r.item.to (edge_is r.place r.item.from r.item.to r.item r.is refl refl) (stays_parts places r.item.from r.item.to _ _ refl refl (b.0)))

or_false : (b c : Bool) → c ≡ false → (b || c) ≡ b
or_false true c h = refl
or_false false c h = h

pub marked_set : (marks : List Bool) (i j : ℕ) → i < length marks → marked (slice_set marks i true) j ≡ (marked marks j || nat_eq i j)
marked_set [] i j h = absurd (omega arith)
marked_set (m ∷ ms) zero zero h = sym (second m true refl)
marked_set (m ∷ ms) zero (suc j) h = sym (or_false (marked ms j) (nat_eq 0 (suc j)) (grind (arith, nat_tests)))
marked_set (m ∷ ms) (suc i) zero h = sym (or_false m (nat_eq (suc i) 0) (grind (arith, nat_tests)))
marked_set (m ∷ ms) (suc i) (suc j) h = let e : nat_eq i j ≡ nat_eq (suc i) (suc j) = grind (arith, nat_tests) in marked_set ms i j (omega arith) ∙ ap (λ b. marked ms j || b) e

pub marked_none : (n j : ℕ) → marked (replicate n false) j ≡ false
marked_none zero j = refl
marked_none (suc n) zero = refl
marked_none (suc n) (suc j) = marked_none n j

pub within : (places : List Node) (e : Edge) → stays places e ≡ true → e.from < length places
within places e h = held (slice_get places e.from) refl h
  where
    held : (o : Option Node) → slice_get places e.from ≡ o → stays_by o (slice_get places e.to) ≡ true → e.from < length places
    held None f h = absurd (no_false h)
    held (Some p) f h = slice_get_within places e.from p f

-- what one more edge adds
pub one_more : (m s b r : Bool) → s ≡ true → ((m || b) || r) ≡ (m || ((s && b) || r))
one_more true s b r h = refl
one_more false s b r h = ap (λ x. (x && b) || r) (sym h)

pub none_more : (m s b r : Bool) → s ≡ false → (m || r) ≡ (m || ((s && b) || r))
none_more m s b r h = ap (λ x. m || ((x && b) || r)) (sym h)

pub decided_by : (edges : List Edge) (places : List Node) → AreRight edges places → (i : ℕ) (b : Bool) → b ≡ list_any (stays_from places i) edges → Decides b (IsTurning edges i)
decided_by edges places right i b e = subst (λ (x : Bool). Decides x (IsTurning edges i)) (sym e) (decided edges places right i)
