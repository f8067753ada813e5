-- Places of declarations by name.
use Rattle.std.proofs.Common.{◌≡◌, ◌<◌, ◌≤◌, ℕ, Bool, List, [], ◌∷◌, ◌++◌, Option, Some, None, map, length, get_or, refl, sym, ap, ◌∙◌, append_assoc}
use Rattle.std.proofs.lemmas.List.{map-append}
use Rattle.std.proofs.lemmas.Option.{slice_get-map, slice_get-get_or, slice_get_past}
use Rattle.graph_reach.specs.declared.threads.Edge.{Edge}
use Rattle.std.specs.Prelude.{filter_map, option_map, option_and_then, slice_get, if◌then◌else◌}
use Rattle.st_unit_rules.specs.declared_names.Declarations.{Declaration, an_entry, a_global, an_interface, a_class, a_function, a_program, a_configuration}
use Rattle.st_unit_rules.specs.Cycles.{place_from, type_place, class_place, types_named, constant_place, is_global_or_function}
use Rattle.st_unit_rules.specs.declared.declaration_list.listed.Declared.{Declared}
use Rattle.st_unit_rules.specs.declaration_list.Listed.{declared_as}
use Rattle.declared_graph.specs.Private.Known.{is_constant, constant_if}
use Rattle.declared_graph.specs.Private.Edges.{edge, edges_to, told}

pub told_next : (f : List ℕ → Option ℕ) (n : List ℕ) (ns : List (List ℕ)) → told (f n) ++ filter_map f ns ≡ filter_map f (n ∷ ns)
told_next f n ns = of (f n) refl
  where
    of : (o : Option ℕ) → f n ≡ o → told (f n) ++ filter_map f ns ≡ filter_map f (n ∷ ns)
    of None e = simp (e)
    of (Some i) e = simp (e)

pub told_one : (f : List ℕ → Option ℕ) (n : List ℕ) → told (f n) ≡ filter_map f (n ∷ [])
told_one f n = of (f n) refl
  where
    of : (o : Option ℕ) → f n ≡ o → told (f n) ≡ filter_map f (n ∷ [])
    of None e = simp (e)
    of (Some i) e = simp (e)

pub told_type : (ds : List Declaration) (n : List ℕ) → told (type_place ds n) ≡ types_named ds (n ∷ [])
told_type ds n = told_one (type_place ds) n

pub told_class : (ds : List Declaration) (n : List ℕ) → told (class_place ds n) ≡ filter_map (class_place ds) (n ∷ [])
told_class ds n = told_one (class_place ds) n

pub told_constant : (ds : List Declaration) (n : List ℕ) → told (constant_place ds n) ≡ filter_map (constant_place ds) (n ∷ [])
told_constant ds n = told_one (constant_place ds) n

-- ---- constants

pub constant_cases : (i : ℕ) (d : Declaration) → constant_if i (Some d) ≡ (if is_constant d then Some i else None)
constant_cases i (an_entry t) = refl
constant_cases i (a_global g) = refl
constant_cases i (an_interface n) = refl
constant_cases i (a_class c) = refl
constant_cases i (a_function f) = refl
constant_cases i (a_program p) = refl
constant_cases i (a_configuration c) = refl

pub constant_told : (i : ℕ) (d : Declaration) (b : Bool) → b ≡ is_constant d → (if b then Some i else None) ≡ constant_if i (Some d)
constant_told i d b h = ap (λ (c : Bool). if c then Some i else None) h ∙ sym (constant_cases i d)

pub constant_there : (list : List Declared) (i : ℕ) (d : Declared) (r : Option ℕ) → i < length list → d ≡ get_or list i d → r ≡ constant_if i (Some (declared_as d)) → r ≡ constant_if i (slice_get (map declared_as list) i)
constant_there list i d r l e h = h ∙ sym (ap (constant_if i) (slice_get-map declared_as list i ∙ ap (option_map declared_as) (slice_get-get_or list i d l ∙ ap Some (sym e))))

pub constant_past : (list : List Declared) (i : ℕ) → length list ≤ i → None ≡ constant_if i (slice_get (map declared_as list) i)
constant_past list i l = sym (ap (constant_if i) (slice_get-map declared_as list i ∙ ap (option_map declared_as) (slice_get_past list i l)))

pub constant_is : (ds : List Declaration) (name : List ℕ) → constant_place ds name ≡ option_and_then (λ i. constant_if i (slice_get ds i)) (place_from is_global_or_function name 0 ds)
constant_is ds name = refl

-- ---- edges in two steps

pub two_steps : (from : ℕ) (xs ys zs : List ℕ) → xs ++ ys ≡ zs → (old mid new : List Edge) → mid ≡ old ++ edges_to from xs → new ≡ mid ++ edges_to from ys → new ≡ old ++ edges_to from zs
two_steps from xs ys zs e old mid new h k =
    k ∙ ap (λ es. es ++ edges_to from ys) h ∙ append_assoc old (edges_to from xs) (edges_to from ys) ∙ ap (λ es. old ++ es) (sym (map-append (edge from) xs ys) ∙ ap (edges_to from) e)
