-- Declarations lead to declarations.
use Rattle.std.proofs.Common.{◌≡◌, ℕ, zero, suc, ◌+◌, ◌<◌, Bool, true, false, List, [], ◌∷◌, ◌++◌, Option, Some, None, map, length, refl, sym, ap, ◌∙◌, arith, nat_eq, subst, ◌⊎◌, inl, inr}
use Rattle.std.specs.Prelude.{◌&&◌, ◌||◌, flat_map, filter_map, option_map, option_and_then, slice_get, if◌then◌else◌}
use Rattle.std.proofs.lemmas.Bool.{eqb-true}
use Rattle.std.proofs.lemmas.Option.{slice_get_within}
use Rattle.plc_text.specs.Words.{same}
use Rattle.st_tree.specs.declared.declaration.TypeBody.{TypeBody}
use Rattle.st_tree.specs.declared.declaration.TypeBody.TheVariants as body
use Rattle.st_tree.specs.declared.name.Used.{Used}
use Rattle.st_tree.specs.declared.type_spec.TypeSpec.{TypeSpec}
use Rattle.st_tree.specs.Initial.{initial_of}
use Rattle.st_rules.specs.Chains.{is_among}
use Rattle.st_rules.proofs.Booleans.{false≢true, none≢some, some-same, either}
use Rattle.st_rules.proofs.LeadsLaws.{IsWithin}
use Rattle.st_unit_rules.specs.declared_names.Declarations.{Declaration, an_entry, a_global, an_interface, a_class, a_function, a_program, a_configuration, name_of}
use Rattle.st_unit_rules.specs.Cycles.{Named, alone, before_dot, before_hash, named_in_bounds, named_in_value, place_from, is_global_or_function, type_place, class_place, constant_place, types_named, element_names, base_place, contained_in_body, contained, contained_at, needed_for, needed_by_type, needed_by_value, needed_by_body, needed, needed_at}
use Rattle.declared_graph.specs.Private.Known.{constant_if}
use Rattle.declared_graph.specs.Private.Edges.{told, out_at}
use Rattle.declared_graph.specs.Private.Shared.{AreBelow}
use Rattle.declared_graph.proofs.PlaceLaws.{told_next, constant_is}

pub record Below (n : ℕ) (xs : List ℕ) : Type 0 where
  pub below : (k : ℕ) → is_among k xs ≡ true → k < n

-- ---- lists of numbers below a bound

pub none_below : (n : ℕ) → Below n []
none_below n = record { below = λ k h. absurd (false≢true h) }

among_append : (k : ℕ) (xs ys : List ℕ) → is_among k (xs ++ ys) ≡ true → (is_among k xs ≡ true) ⊎ (is_among k ys ≡ true)
among_append k [] ys h = inr h
among_append k (x ∷ xs) ys h = elim (either (nat_eq k x) (is_among k (xs ++ ys)) h) [
  | inl p ↦ inl (ap (λ b. b || is_among k xs) p)
  | inr p ↦ elim (among_append k xs ys p) [ inl q ↦ inl (second (nat_eq k x) (is_among k xs) q) | inr q ↦ inr q ]
]
  where
    second : (a b : Bool) → b ≡ true → (a || b) ≡ true
    second true b h = refl
    second false b h = h

both_below : (n : ℕ) (xs ys : List ℕ) → Below n xs → Below n ys → Below n (xs ++ ys)
both_below n xs ys f g = record { below = λ k h. elim (among_append k xs ys h) [ inl p ↦ f.below k p | inr p ↦ g.below k p ] }

pub if_below : (n : ℕ) (b : Bool) (xs : List ℕ) → Below n xs → Below n (if b then xs else [])
if_below n true xs h = h
if_below n false xs h = none_below n

told_below : (n : ℕ) (o : Option ℕ) → ((k : ℕ) → o ≡ Some k → k < n) → Below n (told o)
told_below n None h = none_below n
told_below n (Some i) h = record { below = λ k m. elim (either (nat_eq k i) false m) [ inl p ↦ h k (ap Some (sym (eqb-true k i p))) | inr p ↦ absurd (false≢true p) ] }

pub named_below : (n : ℕ) (f : List ℕ → Option ℕ) → ((name : List ℕ) (k : ℕ) → f name ≡ Some k → k < n) → (names : List (List ℕ)) → Below n (filter_map f names)
named_below n f h [] = none_below n
named_below n f h (name ∷ names) = subst (λ (xs : List ℕ). Below n xs) (told_next f name names) (both_below n (told (f name)) (filter_map f names) (told_below n (f name) (h name)) (named_below n f h names))

pub flat_below : {X : Type 0} (n : ℕ) (f : X → List ℕ) → ((x : X) → Below n (f x)) → (xs : List X) → Below n (flat_map f xs)
flat_below n f h [] = none_below n
flat_below n f h (x ∷ xs) = both_below n (f x) (flat_map f xs) (h x) (flat_below n f h xs)

-- ---- places

place_below : (test : Declaration → Bool) (name : List ℕ) (i : ℕ) (ds : List Declaration) (k : ℕ) → place_from test name i ds ≡ Some k → k < i + length ds
place_below test name i [] k e = absurd (none≢some e)
place_below test name i (d ∷ ds) k e = of (λ h. place_below test name (suc i) ds k h) (test d && same (name_of d).text name) e
  where
    of : (place_from test name (suc i) ds ≡ Some k → k < suc i + length ds) → (b : Bool) → (if b then Some i else place_from test name (suc i) ds) ≡ Some k → k < i + length (d ∷ ds)
    of r true h = let s : i ≡ k = some-same h in omega arith
    of r false h = let l : k < suc i + length ds = r h in omega arith

module _ (ds : List Declaration) where
  from_start : (test : Declaration → Bool) (name : List ℕ) (k : ℕ) → place_from test name 0 ds ≡ Some k → k < length ds
  from_start test name k e = let r : k < 0 + length ds = place_below test name 0 ds k e in omega arith

  types_below : (names : List (List ℕ)) → Below (length ds) (types_named ds names)
  types_below names = named_below (length ds) (type_place ds) (λ name k e. from_start _ name k e) names

  constant_at_place : (i k : ℕ) (o : Option Declaration) → constant_if i o ≡ Some k → i ≡ k
  constant_at_place i k None e = absurd (none≢some e)
  constant_at_place i k (Some (an_entry t)) e = absurd (none≢some e)
  constant_at_place i k (Some (a_global g)) e = of g.written.constant e
    where
      of : (b : Bool) → (if b then Some i else None) ≡ Some k → i ≡ k
      of true h = some-same h
      of false h = absurd (none≢some h)
  constant_at_place i k (Some (an_interface n)) e = absurd (none≢some e)
  constant_at_place i k (Some (a_class c)) e = absurd (none≢some e)
  constant_at_place i k (Some (a_function f)) e = absurd (none≢some e)
  constant_at_place i k (Some (a_program p)) e = absurd (none≢some e)
  constant_at_place i k (Some (a_configuration c)) e = absurd (none≢some e)

  constant_below : (name : List ℕ) (k : ℕ) → constant_place ds name ≡ Some k → k < length ds
  constant_below name k e = of (place_from is_global_or_function name 0 ds) refl (sym (constant_is ds name) ∙ e)
    where
      of : (o : Option ℕ) → place_from is_global_or_function name 0 ds ≡ o → option_and_then (λ i. constant_if i (slice_get ds i)) o ≡ Some k → k < length ds
      of None p h = absurd (none≢some h)
      of (Some i) p h = subst (λ (x : ℕ). x < length ds) (constant_at_place i k (slice_get ds i) h) (from_start is_global_or_function name i p)

  constants_below : (names : List (List ℕ)) → Below (length ds) (filter_map (constant_place ds) names)
  constants_below names = named_below (length ds) (constant_place ds) constant_below names

  -- ---- containment

  base_below : (b : Option (Used ℕ)) → Below (length ds) (base_place ds b)
  base_below None = none_below (length ds)
  base_below (Some b) = named_below (length ds) (class_place ds) (λ name k e. from_start _ name k e) (b.text ∷ [])

  body_below : (b : TypeBody ℕ) → Below (length ds) (contained_in_body ds b)
  body_below (body.Alias t) = types_below (element_names t.element)
  body_below (body.Enumeration ns) = none_below (length ds)
  body_below (body.Structure gs) = types_below _

  contained_below : (o : Option Declaration) → Below (length ds) (contained ds o)
  contained_below None = none_below (length ds)
  contained_below (Some (an_entry t)) = body_below t.body
  contained_below (Some (a_global g)) = none_below (length ds)
  contained_below (Some (an_interface n)) = none_below (length ds)
  contained_below (Some (a_class c)) = both_below (length ds) (base_place ds c.base) _ (base_below c.base) (types_below _)
  contained_below (Some (a_function f)) = none_below (length ds)
  contained_below (Some (a_program p)) = none_below (length ds)
  contained_below (Some (a_configuration c)) = none_below (length ds)

  -- where nothing stands, nothing is contained
  there : (i k : ℕ) (o : Option Declaration) → slice_get ds i ≡ o → is_among k (contained ds o) ≡ true → i < length ds
  there i k None e h = absurd (false≢true h)
  there i k (Some d) e h = slice_get_within ds i d e

  pub contained_within : IsWithin (contained_at ds) (length ds)
  contained_within = record { within = λ i k h. (there i k (slice_get ds i) refl h, (contained_below (slice_get ds i)).below k h) }

  -- ---- need

  for_below : (n : Named) → Below (length ds) (needed_for ds n)
  for_below (alone name) = constants_below (name ∷ [])
  for_below (before_dot name) = both_below (length ds) (filter_map (constant_place ds) (name ∷ [])) (types_named ds (name ∷ [])) (constants_below (name ∷ [])) (types_below (name ∷ []))
  for_below (before_hash l name) = types_below (name ∷ [])

  all_below_for : (ns : List Named) → Below (length ds) (flat_map (needed_for ds) ns)
  all_below_for ns = flat_below (length ds) (needed_for ds) for_below ns

  type_below : (t : TypeSpec ℕ) → Below (length ds) (needed_by_type ds t)
  type_below t = both_below (length ds) (types_named ds (element_names t.element)) (flat_map (needed_for ds) (named_in_bounds t)) (types_below (element_names t.element)) (all_below_for (named_in_bounds t))

  needed_body_below : (b : TypeBody ℕ) → Below (length ds) (needed_by_body ds b)
  needed_body_below (body.Alias t) = type_below t
  needed_body_below (body.Enumeration ns) = none_below (length ds)
  needed_body_below (body.Structure gs) = none_below (length ds)

  needed_below : (d : Declaration) → Below (length ds) (needed ds (Some d))
  needed_below (an_entry t) = needed_body_below t.body
  needed_below (a_global g) =
      if_below (length ds) g.written.constant (needed_by_type ds g.item.kind ++ needed_by_value ds (option_map initial_of g.item.initial))
      (both_below (length ds) (needed_by_type ds g.item.kind) (needed_by_value ds (option_map initial_of g.item.initial)) (type_below g.item.kind) (all_below_for (named_in_value (option_map initial_of g.item.initial))))
  needed_below (an_interface n) = none_below (length ds)
  needed_below (a_class c) = none_below (length ds)
  needed_below (a_function f) = none_below (length ds)
  needed_below (a_program p) = none_below (length ds)
  needed_below (a_configuration c) = none_below (length ds)

  needed_there : (i k : ℕ) (o : Option Declaration) → slice_get ds i ≡ o → is_among k (needed ds o) ≡ true → (i < length ds) × (k < length ds)
  needed_there i k None e h = absurd (false≢true h)
  needed_there i k (Some d) e h = (slice_get_within ds i d e, (needed_below d).below k h)

  pub needed_within : IsWithin (needed_at ds) (length ds)
  needed_within = record { within = λ i k h. needed_there i k (slice_get ds i) refl h }

-- ---- lists of such lists

pub all_below : {Z : Type 0} (n : ℕ) (f : Z → List ℕ) → ((z : Z) → Below n (f z)) → (zs : List Z) → AreBelow n (map f zs)
unfolding out_at
all_below n f h zs = record { below = each zs }
  where
    each : (zs : List _) (i k : ℕ) → is_among k (out_at (map f zs) i) ≡ true → k < n
    each [] i k m = absurd (false≢true m)
    each (z ∷ zs) zero k m = (h z).below k m
    each (z ∷ zs) (suc i) k m = each zs i k m

pub needs_below : {Z : Type 0} (v : Z → Declaration) (ds : List Declaration) (zs : List Z) → AreBelow (length ds) (map (λ z. needed ds (Some (v z))) zs)
needs_below v ds zs = all_below (length ds) (λ z. needed ds (Some (v z))) (λ z. needed_below ds (v z)) zs

pub first_needs_below : {Z : Type 0} (v : Z → Declaration) (first : Z → Bool) (ds : List Declaration) (zs : List Z) → AreBelow (length ds) (map (λ z. if first z then needed ds (Some (v z)) else []) zs)
first_needs_below v first ds zs = all_below (length ds) (λ z. if first z then needed ds (Some (v z)) else []) (λ z. if_below (length ds) (first z) (needed ds (Some (v z))) (needed_below ds (v z))) zs
