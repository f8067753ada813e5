-- A type that holds no instance has a shape without one.
use Rattle.std.proofs.Common.{◌≡◌, ℕ, zero, suc, false, List, [], ◌∷◌, Option, Some, None, refl, sym, ap, ◌∙◌}
use Rattle.std.specs.Prelude.{slice_get}
use Rattle.plc_text.specs.declared.code.Code.TheVariants.{E07}
use Rattle.st_types.specs.declared.st_type.StType.{StType, out-StType}
use Rattle.st_types.specs.declared.st_type.StType.TheVariants as type
use Rattle.st_types.specs.declared.st_type.StType.TheOpen.{StType-F}
use Rattle.st_tree.specs.declared.declaration.FieldGroup.{FieldGroup}
use Rattle.st_tree.specs.declared.program.Program.{Program as Checked}
use Rattle.st_tree.specs.declared.unit.Decl.{Decl}
use Rattle.st_rules.specs.Expressions.{told}
use Rattle.st_rules.specs.Kinds.{holds_instances, holds_instances-Elementary, holds_instances-Instance, holds_instances-Array}
use Rattle.st_rules.specs.Scope.{Scope}
use Rattle.st_rules.proofs.Booleans.{none≢some, some-same, or-neither, true≢false}
use Rattle.st_unit_rules.specs.Checked.{IsChecked}
use Rattle.st_unit_rules.specs.declared_names.UnitNames.{unit_names, unit_scope}
use Rattle.st_unit_rules.specs.declared_names.WrittenTypes.{type_written, type_faults}
use Rattle.st_unit_rules.specs.DeclarationRules.{group_faults, field_given}
use Rattle.st_unit_rules.specs.UnitRefusal.{BreaksNothing}
use Rattle.st_unit_rules.specs.VariableRules.{holds_instances_told}
use Rattle.st_values.specs.Program as seen
use Rattle.st_values.specs.Program.{Variable, Class, Program, class_at}
use Rattle.st_values.specs.Shape as shape
use Rattle.st_values.specs.Shape.{Shape, Fields, field_then, fields_by, fields_of, simple_shape, shape_by, shape_within, has_instance, a_field_has_instance, extent}
use Rattle.st_values.specs.Value.{◌>>=◌}
use Rattle.st_values.specs.View.{program_of}
use Rattle.st_values.proofs.ShapeLaws.{mapped_some}
use Rattle.st_values.proofs.ValueLaws.{then_some}
use Rattle.resolution_order.specs.told_laws.ToldLaws.{Every}
use Rattle.accepted_texts.proofs.sized_units.Depths.{type_is}
use Rattle.accepted_texts.proofs.unfolding_laws.CycleLaws.{none_in, not_when}
use Rattle.initial_laws.proofs.Places.{structure_rules}
use Rattle.initial_laws.proofs.Parts.{FieldOf, FieldsSay, groups_say, structure_says}

pub none_told : (o : Option StType) → holds_instances_told o ≡ false → holds_instances (told o) ≡ false
unfolding told
none_told None h = holds_instances-Elementary _
none_told (Some t) h = h

module _ (decls : List (Decl ℕ)) (p : Checked) (good : BreaksNothing decls) (checked : IsChecked decls p) where
  abbrev unit : Scope
  unit = unit_scope decls (unit_names decls)

  abbrev Seen : Program
  Seen = program_of p

  abbrev HoldsNone : Variable → Type 0
  HoldsNone v = holds_instances v.kind ≡ false

  one_field : (v : Variable) (g : FieldGroup ℕ) → FieldOf unit v g → group_faults decls g ≡ [] → HoldsNone v
  one_field v g i f =
      let a = none_in _ (field_given decls g g.initial) f in
      let b = none_in (type_faults unit g.kind) _ a.0 in
      ap holds_instances i.kind ∙ none_told (type_written unit g.kind) (not_when (holds_instances_told (type_written unit g.kind)) E07 _ b.1)

  fields_none : FieldsSay decls p checked HoldsNone
  fields_none = λ n t gs hs e q h. groups_say unit HoldsNone (λ g. group_faults decls g ≡ []) one_field gs hs h (structure_rules decls good n t gs e q)

  abbrev None_in : (StType → Option Shape) → Type 0
  None_in f = (t : StType) (sh : Shape) → holds_instances t ≡ false → f t ≡ Some sh → has_instance sh ≡ false

  fields_without : (f : StType → Option Shape) → None_in f → (vs : List Variable) → Every HoldsNone vs → (fs : Fields) → fields_by f vs ≡ Some fs → a_field_has_instance fs ≡ false
  fields_without f below [] h fs e = ap a_field_has_instance (sym (some-same e))
  fields_without f below (v ∷ vs) h fs e =
      let a = then_some (f v.kind) (λ sh. fields_by f vs >>= λ rest. Some (field_then v sh rest)) fs e in
      let b = then_some (fields_by f vs) (λ rest. Some (field_then v a.0 rest)) fs a.2 in
      ap a_field_has_instance (sym (some-same b.2)) ∙ or-neither (has_instance a.0) (a_field_has_instance b.0) (below v.kind a.0 h.0 a.1) (fields_without f below vs h.1 b.0 b.1)

  simple_without : (o : StType-F StType) (sh : Shape) → simple_shape Seen o ≡ Some sh → has_instance sh ≡ false
  simple_without (StType-F.Elementary e) sh q = ap has_instance (sym (some-same q))
  simple_without (StType-F.Enumeration n) sh q =
      let a = then_some (slice_get Seen.types n) (λ t. shape.values_of t.body >>= λ vs. Some (shape.Enumeration t.name vs)) sh q in
      let b = then_some (shape.values_of (a.0).body) (λ vs. Some (shape.Enumeration (a.0).name vs)) sh a.2 in
      ap has_instance (sym (some-same b.2))
  simple_without (StType-F.Reference c) sh q = let m = mapped_some (λ (k : Class). shape.Reference c k.name) (class_at Seen c) sh q in ap has_instance (sym m.2)
  simple_without (StType-F.Interface i) sh q = let m = mapped_some (λ (k : seen.Interface). shape.Interface i k.name) (slice_get Seen.interfaces i) sh q in ap has_instance (sym m.2)
  simple_without _ sh q = absurd (none≢some q)

  level_without : (f : StType → Option Shape) → None_in f → (t : StType) (o : StType-F StType) (sh : Shape) → out-StType t ≡ o → holds_instances t ≡ false → shape_by Seen f o ≡ Some sh → has_instance sh ≡ false
  level_without f below t (StType-F.Array low high of) sh q h e =
      let m = mapped_some (shape.Array low (extent low high)) (f of) sh e in
      let same : t ≡ type.Array low high of = type_is t (StType-F.Array low high of) q ∙ type.rolls-Array low high of in
      ap has_instance (sym m.2) ∙ below of m.0 (sym (ap holds_instances same ∙ holds_instances-Array low high of) ∙ h) m.1
  level_without f below t (StType-F.Structure n) sh q h e =
      let a = then_some (slice_get Seen.types n) (λ x. fields_of x.body >>= λ vs. fields_by f vs >>= λ fields. Some (shape.Structure x.name fields)) sh e in
      let b = then_some (fields_of (a.0).body) (λ vs. fields_by f vs >>= λ fields. Some (shape.Structure (a.0).name fields)) sh a.2 in
      let c = then_some (fields_by f b.0) (λ fields. Some (shape.Structure (a.0).name fields)) sh b.2 in
      ap has_instance (sym (some-same c.2)) ∙ fields_without f below b.0 (structure_says decls p checked HoldsNone fields_none n a.0 b.0 a.1 b.1) c.0 c.1
  level_without f below t (StType-F.Instance c) sh q h e =
      let same : t ≡ type.Instance c = type_is t (StType-F.Instance c) q ∙ type.rolls-Instance c in
      absurd (true≢false (sym (ap holds_instances same ∙ holds_instances-Instance c) ∙ h))
  level_without f below t (StType-F.Elementary e) sh q h g = simple_without (StType-F.Elementary e) sh g
  level_without f below t (StType-F.Enumeration n) sh q h g = simple_without (StType-F.Enumeration n) sh g
  level_without f below t (StType-F.Reference c) sh q h g = simple_without (StType-F.Reference c) sh g
  level_without f below t (StType-F.Interface i) sh q h g = simple_without (StType-F.Interface i) sh g

  pub without : (n : ℕ) → None_in (shape_within Seen n)
  without zero t sh h e = simple_without (out-StType t) sh e
  without (suc n) t sh h e = level_without (shape_within Seen n) (without n) t (out-StType t) sh refl h e
