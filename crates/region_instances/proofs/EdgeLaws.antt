-- The edges of the graph of what types hold.
use Rattle.std.proofs.Common.{◌≡◌, ◌<◌, ℕ, zero, suc, ◌+◌, Bool, true, false, List, [], ◌∷◌, ◌++◌, length, Option, Some, None, map, get_or, refl, sym, ap, ◌∙◌, arith, inl, inr}
use Rattle.std.specs.Prelude.{nat_eq, nat_lt, ◌||◌, slice_get, option_and_then, if◌then◌else◌}
use Rattle.std.specs.List.{cons_option}
use Rattle.std.proofs.lemmas.Bool.{eqb-true, eq-eqb, ltb-true}
use Rattle.std.proofs.lemmas.List.{length-append, length-map}
use Rattle.st_rules.specs.Chains.{is_among}
use Rattle.st_rules.proofs.Booleans.{either, false≢true}
use Rattle.graph_reach.specs.Reach.{ahead_in, AreEdges}
use Rattle.st_types.specs.declared.st_type.StType.{StType}
use Rattle.program_tables.specs.declared.st_initial.members.Members.{Members}
use Rattle.program_tables.specs.declared.st_initial.variables.Variable as code
use Rattle.program_tables.specs.st_initial.Variables.{variables_of}
use Rattle.program_tables.specs.st_initial.Members.{list_at}
use Rattle.st_values.specs.Program.{Variable}
use Rattle.region_instances.specs.declared.held.Held.{Held}
use Rattle.region_instances.specs.declared.held.Held.TheVariants as held
use Rattle.region_instances.specs.declared.held.Counts.{Counts}
use Rattle.region_instances.specs.Private.Held.{held_of, node, node_of}
use Rattle.region_instances.specs.Private.Graph.{nodes_of, nodes_in, lists_of}

pub if_some : {A : Type 0} (b : Bool) (t u : A) → (if b then Some t else None) ≡ Some u → (b ≡ true) × (t ≡ u)
if_some true t u e = (refl, cc)
if_some false t u e = cc

pub then_is : {A B : Type 0} (o : Option A) (f : A → Option B) (b : B) → option_and_then f o ≡ Some b → (a : A) × (o ≡ Some a) × (f a ≡ Some b)
then_is None f b e = cc
then_is (Some a) f b e = (a, refl, e)

-- ---- nodes

node_below : (counts : Counts) (h : Held) (m : ℕ) → node counts h ≡ Some m → m < counts.classes + counts.structures
node_below counts (held.Class c) m e =
    let a = if_some (nat_lt c counts.classes) c m e in
    let l = ltb-true c counts.classes a.0 in
    let q : c ≡ m = a.1 in omega (arith, l, q)
node_below counts (held.Structure n) m e =
    let a = if_some (nat_lt n counts.structures) (counts.classes + n) m e in
    let l = ltb-true n counts.structures a.0 in
    let q : counts.classes + n ≡ m = a.1 in omega (arith, l, q)

module _ (counts : Counts) where
  -- one of the nodes is that of a variable, and the other way round
  pub among_nodes : (vs : List Variable) (k : ℕ) → is_among k (nodes_of counts vs) ≡ true → (j : ℕ) × (v : Variable) × (slice_get vs j ≡ Some v) × (node_of counts v.kind ≡ Some k)
  among_nodes [] k h = absurd (false≢true h)
  among_nodes (v ∷ vs) k h = at (λ g. among_nodes vs k g) (node_of counts v.kind) refl h
    where
      later : (j : ℕ) × (w : Variable) × (slice_get vs j ≡ Some w) × (node_of counts w.kind ≡ Some k) → (j : ℕ) × (w : Variable) × (slice_get (v ∷ vs) j ≡ Some w) × (node_of counts w.kind ≡ Some k)
      later r = (suc r.0, r.1, r.2, r.3)

      at : (is_among k (nodes_of counts vs) ≡ true → (j : ℕ) × (w : Variable) × (slice_get vs j ≡ Some w) × (node_of counts w.kind ≡ Some k)) → (o : Option ℕ) → node_of counts v.kind ≡ o → is_among k (cons_option o (nodes_of counts vs)) ≡ true → (j : ℕ) × (w : Variable) × (slice_get (v ∷ vs) j ≡ Some w) × (node_of counts w.kind ≡ Some k)
      at f None e g = later (f g)
      at f (Some m) e g = elim (either (nat_eq k m) (is_among k (nodes_of counts vs)) g) [
        | inl r ↦ let s : k ≡ m = eqb-true k m r in (0, v, refl, e ∙ ap Some (sym s))
        | inr r ↦ later (f r)
      ]

  or_true : (b : Bool) → (b || true) ≡ true
  or_true true = refl
  or_true false = refl

  pub among_at : (vs : List Variable) (j : ℕ) (v : Variable) (k : ℕ) → slice_get vs j ≡ Some v → node_of counts v.kind ≡ Some k → is_among k (nodes_of counts vs) ≡ true
  among_at [] j v k e n = cc
  among_at (w ∷ vs) zero v k e n =
      let q : w ≡ v = cc in
      ap (λ o. is_among k (cons_option o (nodes_of counts vs))) (ap (λ x. node_of counts x.kind) q ∙ n) ∙ ap (λ b. b || is_among k (nodes_of counts vs)) (eq-eqb k k refl)
  among_at (w ∷ vs) (suc j) v k e n = at (node_of counts w.kind) (among_at vs j v k e n)
    where
      at : (x : Option ℕ) → is_among k (nodes_of counts vs) ≡ true → is_among k (cons_option x (nodes_of counts vs)) ≡ true
      at None h = h
      at (Some m) h = ap (λ b. nat_eq k m || b) h ∙ or_true (nat_eq k m)

  pub node_of_below : (t : StType) (k : ℕ) → node_of counts t ≡ Some k → k < counts.classes + counts.structures
  node_of_below t k e = let b = then_is (held_of t) (node counts) k e in node_below counts b.0 k b.2

  nodes_below : (vs : List Variable) (k : ℕ) → is_among k (nodes_of counts vs) ≡ true → k < counts.classes + counts.structures
  nodes_below vs k h =
      let a = among_nodes vs k h in
      node_of_below a.1.kind k a.3

  -- ---- the lists of edges

  below_one : (xs : List (List code.Variable)) (i k : ℕ) → is_among k (get_or (map (nodes_in counts) xs) i []) ≡ true → k < counts.classes + counts.structures
  below_one [] i k h = absurd (false≢true h)
  below_one (x ∷ xs) zero k h = nodes_below (variables_of x) k h
  below_one (x ∷ xs) (suc i) k h = below_one xs i k h

  below_both : (xs ys : List (List code.Variable)) (i k : ℕ) → is_among k (get_or (map (nodes_in counts) xs ++ map (nodes_in counts) ys) i []) ≡ true → k < counts.classes + counts.structures
  below_both [] ys i k h = below_one ys i k h
  below_both (x ∷ xs) ys zero k h = nodes_below (variables_of x) k h
  below_both (x ∷ xs) ys (suc i) k h = below_both xs ys i k h

  pub list_count : (m : Members) → length (lists_of counts m) ≡ length m.classes + length m.structures
  list_count m =
      length-append (map (nodes_in counts) m.classes) (map (nodes_in counts) m.structures)
      ∙ ap (λ n. n + length (map (nodes_in counts) m.structures)) (length-map m.classes (nodes_in counts))
      ∙ ap (λ n. length m.classes + n) (length-map m.structures (nodes_in counts))

  pub are_edges : (m : Members) → counts.classes ≡ length m.classes → counts.structures ≡ length m.structures → AreEdges (lists_of counts m)
  are_edges m c s = record {
    within = λ i k h.
        let b = below_both m.classes m.structures i k h in
        let n = list_count m in
        omega (arith, b, n, c, s);
  }

  one_ahead : (xs : List (List code.Variable)) (i : ℕ) → get_or (map (nodes_in counts) xs) i [] ≡ nodes_of counts (list_at xs i)
  one_ahead [] i = refl
  one_ahead (x ∷ xs) zero = refl
  one_ahead (x ∷ xs) (suc i) = one_ahead xs i

  first_ahead : (xs ys : List (List code.Variable)) (i : ℕ) → i < length xs → get_or (map (nodes_in counts) xs ++ map (nodes_in counts) ys) i [] ≡ nodes_of counts (list_at xs i)
  first_ahead [] ys i h = absurd (omega (arith, h))
  first_ahead (x ∷ xs) ys zero h = refl
  first_ahead (x ∷ xs) ys (suc i) h = first_ahead xs ys i (omega (arith, h))

  second_ahead : (xs ys : List (List code.Variable)) (n : ℕ) → get_or (map (nodes_in counts) xs ++ map (nodes_in counts) ys) (length xs + n) [] ≡ nodes_of counts (list_at ys n)
  second_ahead [] ys n = ap (λ k. get_or (map (nodes_in counts) ys) k []) (let e : 0 + n ≡ n = omega arith in e) ∙ one_ahead ys n
  second_ahead (x ∷ xs) ys n =
      ap (λ k. get_or (nodes_in counts x ∷ (map (nodes_in counts) xs ++ map (nodes_in counts) ys)) k []) (let e : suc (length xs) + n ≡ suc (length xs + n) = omega arith in e)
      ∙ second_ahead xs ys n

  pub class_ahead : (m : Members) (c : ℕ) → c < length m.classes → ahead_in (lists_of counts m) c ≡ nodes_of counts (list_at m.classes c)
  class_ahead m c h = first_ahead m.classes m.structures c h

  pub structure_ahead : (m : Members) (n : ℕ) → ahead_in (lists_of counts m) (length m.classes + n) ≡ nodes_of counts (list_at m.structures n)
  structure_ahead m n = second_ahead m.classes m.structures n
