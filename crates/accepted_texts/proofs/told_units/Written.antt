-- Where what a written type and a constant need is told, and they break no rule, they are told.
use Rattle.std.proofs.Common.{◌≡◌, ℕ, ℤ, Bool, true, false, List, [], ◌∷◌, ◌++◌, Option, Some, None, refl, sym, ap, ◌∙◌}
use Rattle.std.specs.Prelude.{int_le, option_map, option_and_then, if◌then◌else◌, flat_map, ◌&&◌, ◌||◌, not}
use Rattle.std.specs.Option.{is_some, is_none}
use Rattle.plc_text.specs.declared.code.Code.TheVariants.{E05, E07, E13}
use Rattle.st_types.specs.declared.st_type.StType.{StType, out-StType}
use Rattle.st_types.specs.declared.st_type.StType.TheVariants as type
use Rattle.st_tree.specs.declared.declaration.Item.{Item}
use Rattle.st_tree.specs.declared.declaration.Section.{Section}
use Rattle.st_tree.specs.declared.type_spec.Bounds.{Bounds}
use Rattle.st_tree.specs.declared.type_spec.SimpleSpec.{SimpleSpec}
use Rattle.st_tree.specs.declared.type_spec.SimpleSpec.TheVariants as spec
use Rattle.st_tree.specs.declared.type_spec.TypeSpec.{TypeSpec}
use Rattle.st_tree.specs.Expression.{Expression, expression_of}
use Rattle.st_tree.specs.Initial.{Initial, Value, Array, Fields, initial_of}
use Rattle.st_rules.specs.declared.asked.Asked.{Asked}
use Rattle.st_rules.specs.declared.asked.Asked.TheVariants.{Anything, Wanted}
use Rattle.st_rules.specs.declared.names.DeclaredType.{DeclaredType}
use Rattle.st_rules.specs.Kinds.{is_number, is_elementary}
use Rattle.st_rules.specs.Literals.{asked_of}
use Rattle.st_rules.specs.Scope.{Scope, type_named, is_external}
use Rattle.st_rules.specs.Expressions.{line_of, type_of, index_unsuited, is_no_index, reference_to}
use Rattle.st_unit_rules.specs.declared_names.Constants.{constant_faults, names_are_told, told_value}
use Rattle.st_unit_rules.specs.declared_names.WrittenTypes.{in_array, array_of, is_number_type, dimensions, type_declared, named_type, bound_value, element_written, arrays_of, type_written, bounds_faults, lies_above, lower_bound_above, dimension_faults, type_not_found, is_instance_told, reference_to_another_type, element_faults, type_faults}
use Rattle.st_unit_rules.specs.declared_names.Variables.{Written, declares_constants, may_be_constant, value_given, constant_of}
use Rattle.st_unit_rules.specs.declared_names.Declarations.{item_line}
use Rattle.st_unit_rules.specs.Initials.{part_faults, count_parts, list_of_no_array, is_no_array, more_values_than_elements, element_given, list_of_no_fields, given_faults}
use Rattle.st_unit_rules.specs.VariableRules.{Home, item_faults, may_hold_instances, instance_out_of_place, instance_of_abstract_class, bad_constant, is_no_constant_type, address_faults, may_have_address, external_faults, initial_if_given}
use Rattle.accepted_texts.proofs.told_units.TypeLaws.{ValuesHaveTypes, AsksForTold, none-of, holds-not}
use Rattle.resolution_order.specs.told_laws.ToldLaws.{Every}
use Rattle.st_rules.proofs.Booleans.{true≢false}
use Rattle.accepted_texts.proofs.unfolding_laws.ListLaws.{every_front, every_back}
use Rattle.st_unit_rules.specs.Cycles.{Named, named_in, named_in_bounds, named_in_value, element_names}
use Rattle.accepted_texts.specs.told_units.Formed.{HasNames, HaveNamesInBounds, IsFormedType, IsFormedInitial}
use Rattle.accepted_texts.proofs.told_units.Value.{breaks-none, comes-to, kind-of}
use Rattle.accepted_texts.proofs.told_units.Names.{IsToldType, IsToldNamed, named}

-- ---- tests

pub is-there : {X : Type 0} (o : Option X) → is_some o ≡ true → (x : X) × (o ≡ Some x)
is-there None h = absurd (cc)
is-there (Some x) h = (x, refl)

or-none : (a b : Bool) → (a || b) ≡ false → (a ≡ false) × (b ≡ false)
or-none true b h = absurd (cc)
or-none false b h = (refl, h)

not-false : (b : Bool) → not b ≡ false → b ≡ true
not-false true h = refl
not-false false h = absurd (cc)

numbered : (l : ℕ) (o : Option StType) → is_some o ≡ true → index_unsuited l o ≡ [] → is_number_type o ≡ true
unfolding index_unsuited
numbered l None h f = absurd (cc)
numbered l (Some t) h f = not-false (is_elementary is_number t) (holds-not (is_no_index t) E07 l f)

module _ (s : Scope) (w : ValuesHaveTypes s) where
  -- ---- constant expressions

  pub is_named : (asked : Asked) (e : Expression ℕ) → Every (IsToldNamed s) (named_in e) → constant_faults s asked e ≡ [] → names_are_told s e ≡ true
  is_named asked e g f = let b = breaks-none s asked e f in named s e asked g b.expression b.parts

  -- the value of a constant expression whose needs are told
  pub value-told : (asked : Asked) (e : Expression ℕ) → HasNames e → AsksForTold asked → Every (IsToldNamed s) (named_in e) → constant_faults s asked e ≡ [] → is_some (told_value s asked e) ≡ true
  value-told asked e n a g f = comes-to s w asked e n a (is_named asked e g f) f

  -- ---- bounds

  pub bound-told : (e : Expression ℕ) → HasNames e → Every (IsToldNamed s) (named_in e) → bounds_faults s e ≡ [] → is_some (bound_value s e) ≡ true
  bound-told e n g f =
      let p = none-of (constant_faults s Anything e) (index_unsuited (line_of e) (type_of s Anything e)) f in
      let k = kind-of s w Anything e n tt (is_named Anything e g p.0) p.0 in
      ap (λ b. is_some (if b then told_value s Anything e else None)) (numbered (line_of e) (type_of s Anything e) k p.1) ∙ value-told Anything e n tt g p.0

  array-told : (low high : Option ℤ) (t : Option StType) → is_some low ≡ true → is_some high ≡ true → is_some t ≡ true → lies_above s low high ≡ false → is_some (array_of low high t) ≡ true
  array-told None high t a b c h = absurd (cc)
  array-told (Some x) None t a b c h = absurd (cc)
  array-told (Some x) (Some y) None a b c h = absurd (cc)
  array-told (Some x) (Some y) (Some t) a b c h = ap (λ p. is_some (if p then Some (in_array x y t) else None)) (not-false (int_le x y) h)

  abbrev in_each : List (Bounds ℕ) → List Named
  in_each bs = flat_map (λ b. named_in (expression_of b.low) ++ named_in (expression_of b.high)) bs

  arrays-told : (bs : List (Bounds ℕ)) (t : Option StType) → is_some t ≡ true → Every HaveNamesInBounds bs → Every (IsToldNamed s) (in_each bs) → flat_map (dimension_faults s) bs ≡ [] → is_some (arrays_of s bs t) ≡ true
  arrays-told [] t h n x f = h
  arrays-told (b ∷ bs) t h n x f =
      let low = expression_of b.low in
      let high = expression_of b.high in
      let xb = every_front (IsToldNamed s) (named_in low ++ named_in high) (in_each bs) x in
      let p = none-of (dimension_faults s b) (flat_map (dimension_faults s) bs) f in
      let q = none-of (bounds_faults s low ++ bounds_faults s high) (lower_bound_above s low high) p.0 in
      let r = none-of (bounds_faults s low) (bounds_faults s high) q.0 in
      array-told (bound_value s low) (bound_value s high) (arrays_of s bs t) (bound-told low (n.0).0 (every_front (IsToldNamed s) (named_in low) (named_in high) xb) r.0)
      (bound-told high (n.0).1 (every_back (IsToldNamed s) (named_in low) (named_in high) xb) r.1) (arrays-told bs t h n.1 (every_back (IsToldNamed s) (named_in low ++ named_in high) (in_each bs) x) p.1)
      (holds-not (lies_above s (bound_value s low) (bound_value s high)) E13 (line_of low) q.1)

  -- ---- the element

  kind-there : (name : List ℕ) → IsToldType s name → (o : Option DeclaredType) → type_named name s.names.types ≡ o → is_none o ≡ false → is_some (option_and_then (λ (t : DeclaredType). t.kind) o) ≡ true
  kind-there name g None e h = absurd (cc)
  kind-there name g (Some d) e h = g d e

  name-told : (l : ℕ) (name : List ℕ) → IsToldType s name → type_not_found s l name ≡ [] → is_some (named_type s name) ≡ true
  name-told l name g f = kind-there name g (type_declared s name) refl (holds-not (is_none (type_declared s name)) E05 l f)

  -- REF_TO leads to a class or a block, whose name is told always
  found-instance : (o : Option DeclaredType) (b : Bool) → is_none o ≡ false → (is_some o && not b) ≡ false → b ≡ true
  found-instance None b h k = absurd (cc)
  found-instance (Some d) b h k = not-false b k

  referred : (o : Option StType) → is_instance_told s o ≡ true → is_some (option_and_then reference_to o) ≡ true
  referred None h = absurd (cc)
  referred (Some (type.Instance c)) h = refl
  referred (Some _) h = absurd (cc)

  element-told : (x : SimpleSpec ℕ) → Every (IsToldType s) (element_names x) → element_faults s x ≡ [] → is_some (element_written s x) ≡ true
  element-told (spec.Elementary l e) g f = refl
  element-told (spec.Named l name) g f = name-told l name g.0 f
  element-told (spec.Reference l k name) g f =
      let p = none-of (type_not_found s k name) (reference_to_another_type s k name) f in
      referred (named_type s name)
      (found-instance (type_declared s name) (is_instance_told s (named_type s name)) (holds-not (is_none (type_declared s name)) E05 k p.0) (holds-not (is_some (type_declared s name) && not (is_instance_told s (named_type s name))) E07 k p.1))

  -- a written type whose needs are told
  pub written-told : (t : TypeSpec ℕ) → IsFormedType t → Every (IsToldNamed s) (named_in_bounds t) → Every (IsToldType s) (element_names t.element) → type_faults s t ≡ [] → is_some (type_written s t) ≡ true
  unfolding type_written type_faults
  written-told t n x z f =
      let p = none-of (flat_map (dimension_faults s) (dimensions t)) (element_faults s t.element) f in
      arrays-told (dimensions t) (element_written s t.element) (element-told t.element z p.1) n x p.0

  -- ---- constants

  no-list : (l : ℕ) (t : StType) → may_be_constant t ≡ true → list_of_no_array l (Some t) ≡ [] → ⊥
  no-list l (type.Elementary e) h f = true≢false (sym (ap is_no_array (type.outs-Elementary e)) ∙ holds-not (is_no_array (out-StType (type.Elementary e))) E07 l f)
  no-list l (type.Enumeration n) h f = true≢false (sym (ap is_no_array (type.outs-Enumeration n)) ∙ holds-not (is_no_array (out-StType (type.Enumeration n))) E07 l f)
  no-list l _ h f = absurd (cc)

  no-fields : (l : ℕ) (t : StType) → may_be_constant t ≡ true → list_of_no_fields l (Some t) ≡ [] → ⊥
  no-fields l (type.Elementary e) h f = absurd (cc)
  no-fields l (type.Enumeration n) h f = absurd (cc)
  no-fields l _ h f = absurd (cc)

  given-told : (line : ℕ) (t : StType) (i : Option (Initial ℕ)) → may_be_constant t ≡ true → is_none i ≡ false → IsFormedInitial i → Every (IsToldNamed s) (named_in_value i) → initial_if_given s (Some t) i ≡ [] → is_some (value_given s t i) ≡ true
  unfolding asked_of
  given-told line t None m h n g f = absurd (cc)
  given-told line t (Some (Value e)) m h n g f = ap (λ b. is_some (if b then told_value s (Wanted t) e else None)) m ∙ value-told (Wanted t) e n tt g f
  given-told line t (Some (Array l ps)) m h n g f =
      let a = list_of_no_array l (Some t) in
      let b = more_values_than_elements l (Some t) (count_parts ps) in
      absurd (no-list l t m (none-of a b (none-of (a ++ b) (part_faults s (element_given (Some t)) ps) f).0).0)
  given-told line t (Some (Fields l fs)) m h n g f = absurd (no-fields l t m (none-of (list_of_no_fields l (Some t)) (given_faults s (Some t) [] fs) f).0)

  -- a constant whose type is told, and what its value needs
  pub constant-told : (line : ℕ) (x : Written) (t : StType) → type_written s x.item.kind ≡ Some t → IsFormedInitial (option_map initial_of x.item.initial)
      → Every (IsToldNamed s) (named_in_value (option_map initial_of x.item.initial))
      → bad_constant line (type_written s x.item.kind) (option_map initial_of x.item.initial) ≡ [] → initial_if_given s (type_written s x.item.kind) (option_map initial_of x.item.initial) ≡ []
      → is_some (constant_of s x) ≡ true
  constant-told line x t e n g b f =
      let i = option_map initial_of x.item.initial in
      let q = or-none (is_no_constant_type (Some t)) (is_none i) (holds-not (is_no_constant_type (Some t) || is_none i) E07 line (sym (ap (λ o. bad_constant line o i) e) ∙ b)) in
      ap (λ o. is_some (option_and_then (λ u. value_given s u i) o)) e ∙ given-told line t i (not-false (may_be_constant t) q.0) q.1 n g (sym (ap (λ o. initial_if_given s o i) e) ∙ f)

  -- ---- an item

  pub record ItemParts (h : Home) (section : Section ℕ) (item : Item ℕ) : Type 0 where
    pub kind : type_faults s item.kind ≡ []
    pub constant : (if declares_constants section then bad_constant (item_line item) (type_written s item.kind) (option_map initial_of item.initial) else []) ≡ []
    pub initial : initial_if_given s (type_written s item.kind) (option_map initial_of item.initial) ≡ []

  pub item-parts : (h : Home) (section : Section ℕ) (item : Item ℕ) → item_faults s h section item ≡ [] → ItemParts h section item
  unfolding item_faults
  item-parts h section item f =
      let line = item_line item in
      let t = type_written s item.kind in
      let i = option_map initial_of item.initial in
      let a = type_faults s item.kind in
      let b = instance_out_of_place line (may_hold_instances h section.sort) t in
      let c = instance_of_abstract_class line s.classes section.sort t in
      let d = if declares_constants section then bad_constant line t i else [] in
      let e = address_faults line (may_have_address h section.sort && not (declares_constants section)) t item.address in
      let g = if is_external section.sort then external_faults s item else [] in
      let z = initial_if_given s t i in
      let last = none-of (a ++ b ++ c ++ d ++ e ++ g) z f in
      let fourth = none-of (a ++ b ++ c) d (none-of (a ++ b ++ c ++ d) e (none-of (a ++ b ++ c ++ d ++ e) g last.0).0).0 in
      record { kind = (none-of a b (none-of (a ++ b) c fourth.0).0).0; constant = fourth.1; initial = last.1 }
