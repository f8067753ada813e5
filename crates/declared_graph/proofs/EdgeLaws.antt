-- The edges of a list of what each node leads to are those that it tells.
use Rattle.std.proofs.Common.{◌≡◌, ℕ, zero, suc, ◌+◌, ◌<◌, true, List, [], ◌∷◌, ◌++◌, Some, refl, sym, ap, ◌∙◌, arith, nat_eq, subst, ◌⊎◌, inl, inr, length, append_assoc}
use Rattle.std.specs.List.{slice_get}
use Rattle.std.specs.Bool.{Decides}
use Rattle.std.proofs.lemmas.Bool.{eqb-true, eq-eqb}
use Rattle.st_rules.specs.Chains.{is_among}
use Rattle.st_rules.proofs.Booleans.{false≢true, none≢some, some-same, either, or-first, or-second}
use Rattle.graph_reach.specs.declared.threads.Edge.{Edge}
use Rattle.graph_cycles.specs.Graph.{HasEdge, AreEdgesOf, AreWithin}
use Rattle.declared_graph.specs.Private.Edges.{edge, edges_to, edges_from, out_at}

-- ---- the edges of one node, before others

here : (es : List Edge) (i j : ℕ) → HasEdge (edge i j ∷ es) i j
here es i j = record { at = 0; is = refl }

there : (e : Edge) (es : List Edge) (i j : ℕ) → HasEdge es i j → HasEdge (e ∷ es) i j
there e es i j h = record { at = suc h.at; is = h.is }

module _ (n : ℕ) (es : List Edge) where
  of_node : (out : List ℕ) (j : ℕ) → is_among j out ≡ true → HasEdge (edges_to n out ++ es) n j
  of_node [] j h = absurd (false≢true h)
  of_node (k ∷ ks) j h = elim (either (nat_eq j k) (is_among j ks) h) [
    | inl p ↦ subst (λ (x : ℕ). HasEdge (edges_to n (k ∷ ks) ++ es) n x) (sym (eqb-true j k p)) (here (edges_to n ks ++ es) n k)
    | inr p ↦ there (edge n k) (edges_to n ks ++ es) n j (of_node ks j p)
  ]

  behind_node : (out : List ℕ) (i j : ℕ) → HasEdge es i j → HasEdge (edges_to n out ++ es) i j
  behind_node [] i j h = h
  behind_node (k ∷ ks) i j h = there (edge n k) (edges_to n ks ++ es) i j (behind_node ks i j h)

  node_or_behind : (out : List ℕ) (i j at : ℕ) → slice_get (edges_to n out ++ es) at ≡ Some (edge i j) → ((i ≡ n) × (is_among j out ≡ true)) ⊎ HasEdge es i j
  node_or_behind [] i j at e = inr (record { at = at; is = e })
  node_or_behind (k ∷ ks) i j zero e =
      let s : edge n k ≡ edge i j = some-same e in
      inl (sym (ap (λ (x : Edge). x.from) s), or-first (nat_eq j k) (is_among j ks) (eq-eqb j k (sym (ap (λ (x : Edge). x.to) s))))
  node_or_behind (k ∷ ks) i j (suc at) e = elim (node_or_behind ks i j at e) [ inl p ↦ inl (p.0, or-second (nat_eq j k) (is_among j ks) p.1) | inr p ↦ inr p ]

-- ---- the edges of all nodes

pub has_edge : (n : ℕ) (outs : List (List ℕ)) (k j : ℕ) → is_among j (out_at outs k) ≡ true → HasEdge (edges_from n outs) (n + k) j
unfolding out_at
has_edge n [] k j h = absurd (false≢true h)
has_edge n (o ∷ os) zero j h = let z : n ≡ n + 0 = omega arith in subst (λ (x : ℕ). HasEdge (edges_from n (o ∷ os)) x j) z (of_node n (edges_from (suc n) os) o j h)
has_edge n (o ∷ os) (suc k) j h = let z : suc n + k ≡ n + suc k = omega arith in subst (λ (x : ℕ). HasEdge (edges_from n (o ∷ os)) x j) z (behind_node n (edges_from (suc n) os) o (suc n + k) j (has_edge (suc n) os k j h))

pub record IsTold (n : ℕ) (outs : List (List ℕ)) (i j : ℕ) : Type 0 where
  pub place : ℕ
  pub is : i ≡ n + place
  pub among : is_among j (out_at outs place) ≡ true

pub is_told : (n : ℕ) (outs : List (List ℕ)) (i j : ℕ) → HasEdge (edges_from n outs) i j → IsTold n outs i j
unfolding out_at
is_told n [] i j h = absurd (none≢some h.is)
is_told n (o ∷ os) i j h = elim (node_or_behind n (edges_from (suc n) os) o i j h.at h.is) [
  | inl p ↦ let z : n ≡ n + 0 = omega arith in record { place = 0; is = p.0 ∙ z; among = p.1 }
  | inr p ↦
      let r : IsTold (suc n) os i j = is_told (suc n) os i j p in
      let z : suc n + r.place ≡ n + suc r.place = omega arith in
      record { place = suc r.place; is = r.is ∙ z; among = r.among }
]

pub are_edges : (outs : List (List ℕ)) → AreEdgesOf (edges_from 0 outs) (out_at outs)
are_edges outs = record { told = λ i j. (to i j, from i j) }
  where
    to : (i j : ℕ) → is_among j (out_at outs i) ≡ true → HasEdge (edges_from 0 outs) i j
    to i j h = let z : 0 + i ≡ i = omega arith in subst (λ (x : ℕ). HasEdge (edges_from 0 outs) x j) z (has_edge 0 outs i j h)

    from : (i j : ℕ) → HasEdge (edges_from 0 outs) i j → is_among j (out_at outs i) ≡ true
    from i j h =
        let r : IsTold 0 outs i j = is_told 0 outs i j h in
        let is : i ≡ 0 + r.place = r.is in
        let z : r.place ≡ i = omega arith in
        subst (λ (x : ℕ). is_among j (out_at outs x) ≡ true) z r.among

pub are_within : (n : ℕ) (outs : List (List ℕ)) → ((i k : ℕ) → is_among k (out_at outs i) ≡ true → (i < n) × (k < n)) → AreWithin n (edges_from 0 outs)
are_within n outs h = record { within = each }
  where
    each : (k : ℕ) (e : Edge) → slice_get (edges_from 0 outs) k ≡ Some e → (e.from < n) × (e.to < n)
    each k e is =
        let edge_there : HasEdge (edges_from 0 outs) e.from e.to = record { at = k; is = is } in
        h e.from e.to (((are_edges outs).told e.from e.to).1 edge_there)

pub edges_of_same : (es : List Edge) (f g : ℕ → List ℕ) → ((i : ℕ) → f i ≡ g i) → AreEdgesOf es f → AreEdgesOf es g
edges_of_same es f g h a = record { told = λ i j. subst (λ (xs : List ℕ). Decides (is_among j xs) (HasEdge es i j)) (h i) (a.told i j) }

-- ---- nodes one after the other

pub out_at_past : (outs more : List (List ℕ)) (i : ℕ) → out_at (outs ++ more) (length outs + i) ≡ out_at more i
unfolding out_at
out_at_past [] more i = let z : 0 + i ≡ i = omega arith in ap (out_at more) z
out_at_past (o ∷ os) more i = let z : suc (length os) + i ≡ suc (length os + i) = omega arith in ap (out_at ((o ∷ os) ++ more)) z ∙ out_at_past os more i

pub from_append : (n : ℕ) (outs more : List (List ℕ)) → edges_from n outs ++ edges_from (n + length outs) more ≡ edges_from n (outs ++ more)
from_append n [] more = let z : n + 0 ≡ n = omega arith in ap (λ m. edges_from m more) z
from_append n (o ∷ os) more =
    let z : n + suc (length os) ≡ suc n + length os = omega arith in
    ap (λ m. (edges_to n o ++ edges_from (suc n) os) ++ edges_from m more) z
    ∙ append_assoc (edges_to n o) (edges_from (suc n) os) (edges_from (suc n + length os) more)
    ∙ ap (λ es. edges_to n o ++ es) (from_append (suc n) os more)
