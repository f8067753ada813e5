-- One step of containment: the parts of a structure and of a class are not too deep, and so have shapes.
use Rattle.std.proofs.Common.{◌≡◌, ℕ, ◌+◌, true, false, List, [], ◌∷◌, map, Option, Some, None, refl, sym, ap, ◌∙◌, subst, arith}
use Rattle.std.specs.Prelude.{flat_map, filter, option_map, slice_get}
use Rattle.std.specs.List.{list_any}
use Rattle.std.proofs.lemmas.Option.{slice_get-map, slice_get_within}
use Rattle.st_types.specs.declared.st_type.StType.{StType}
use Rattle.st_types.specs.declared.st_type.StType.TheOpen.{StType-F}
use Rattle.st_tree.specs.declared.declaration.FieldGroup.{FieldGroup}
use Rattle.st_tree.specs.declared.declaration.TypeBody.{TypeBody}
use Rattle.st_tree.specs.declared.declaration.TypeBody.TheVariants as body
use Rattle.st_tree.specs.declared.program.Note.{Note}
use Rattle.st_tree.specs.declared.program.Program.{Program}
use Rattle.st_tree.specs.declared.type_spec.TypeSpec.{TypeSpec}
use Rattle.st_tree.specs.declared.unit.Decl.{Decl}
use Rattle.st_rules.specs.declared.names.DeclaredField.{DeclaredField}
use Rattle.st_rules.specs.declared.names.DeclaredVariable.{DeclaredVariable}
use Rattle.st_rules.specs.Classes.{classes_in, chain}
use Rattle.st_rules.specs.Expressions.{told}
use Rattle.st_rules.specs.Scope.{Scope, parts_of, field_list, variables_of, is_of_instance}
use Rattle.st_rules.proofs.Booleans.{neither}
use Rattle.st_unit_rules.specs.declared_names.Declarations.{entries_in}
use Rattle.st_unit_rules.specs.declared_names.UnitNames.{unit_names, unit_scope, class_scope}
use Rattle.st_unit_rules.specs.declared_names.Variables as written
use Rattle.st_unit_rules.specs.declared_names.WrittenTypes.{type_written}
use Rattle.st_unit_rules.specs.Checked.{Each, TypedGroup, TypedTypeBody, TypedEntry, TypedClass, IsChecked}
use Rattle.st_unit_rules.specs.Limits.{kinds_told, field_kinds, variable_kinds, has_depth, has_depth_told}
use Rattle.st_values.specs.Program.{class_at, own_of}
use Rattle.st_values.specs.Shape.{Shape, fields_of, shape_by, shape_within}
use Rattle.st_values.specs.View.{sections_in, groups_in, type_body, type_entry, class_of, program_of}
use Rattle.resolution_order.specs.told_laws.ToldLaws.{Every}
use Rattle.accepted_texts.proofs.unfolding_laws.ListLaws.{every_both, every_map, every_flat, every_if_passing, if_there, each_get, from_get}
use Rattle.accepted_texts.proofs.unfolding_laws.NumberLaws.{IsStructure, IsClass, Numbered, ToldNumbered, TypesNumbered, written_numbered, unit_numbered}
use Rattle.accepted_texts.proofs.unfolding_laws.ViewLaws.{groups_shown, kept_shown}
use Rattle.accepted_texts.proofs.unfolding_laws.DeclaredLaws.{scope, fields_say, class_says}
use Rattle.accepted_texts.proofs.unfolding_laws.ChainLaws.{chain_there, chain_same, sections_typed, class_seen, variables_every}
use Rattle.accepted_texts.proofs.unfolding_laws.ShapedLaws.{Shaped, ShapedVariable, told_shaped, structure_shaped, instance_shaped}

-- none of what is told is so deep
none_deep : (s : Scope) (n : ℕ) (os : List (Option StType)) → list_any (has_depth s n) (kinds_told s os) ≡ false → Every (λ o. has_depth_told s n o ≡ false) os
none_deep s n [] h = tt
none_deep s n (None ∷ os) h = (refl, none_deep s n os h)
none_deep s n (Some t ∷ os) h = let b = neither (has_depth s n t) (list_any (has_depth s n) (kinds_told s os)) h in (b.0, none_deep s n os b.1)

pub structure_typed : (decls : List (Decl ℕ)) (gs : List (FieldGroup ℕ)) (b : TypeBody Note) → TypedTypeBody decls (body.Structure gs) b
    → (hs : List (FieldGroup Note)) × (b ≡ body.Structure hs) × Each (TypedGroup (unit_scope decls (unit_names decls))) gs hs
structure_typed decls gs (body.Structure hs) h = (hs, refl, h)
structure_typed decls gs (body.Alias t) h = absurd h
structure_typed decls gs (body.Enumeration ns) h = absurd h

module _ (decls : List (Decl ℕ)) (p : Program) (checked : IsChecked decls p) (locals : List DeclaredVariable) where
  module _ (n : ℕ) (below : (t : StType) → Numbered decls t → has_depth (scope decls locals) n t ≡ false → Shaped (shape_within (program_of p) n) t) where
    abbrev pub Shallow : Option StType → Type 0
    Shallow o = has_depth_told (scope decls locals) n o ≡ false

    abbrev Has : StType → Type 0
    Has t = Shaped (shape_within (program_of p) n) t

    pub told_has : (o : Option StType) → ToldNumbered decls o → Shallow o → Has (told o)
    told_has o u h = told_shaped (program_of p) n o (λ t e. below t (subst (ToldNumbered decls) e u) (subst Shallow e h))

    pub written_has : (s : Scope) → TypesNumbered decls s.names.types → (t : TypeSpec ℕ) → Shallow (type_written s t) → Has (told (type_written s t))
    written_has s u t h = told_has (type_written s t) (written_numbered decls s t u) h

    -- ---- structures

    pub structure_has : (k : ℕ) → IsStructure decls k → list_any (has_depth (scope decls locals) n) (field_kinds (scope decls locals) k) ≡ false → (sh : Shape) × (shape_by (program_of p) (shape_within (program_of p) n) (StType-F.Structure k) ≡ Some sh)
    structure_has k w h =
        let fields = field_list (parts_of (scope decls locals) k) in
        let shallow = every_map Shallow (λ (f : DeclaredField). f.kind) fields (none_deep (scope decls locals) n (map (λ (f : DeclaredField). f.kind) fields) h) in
        let y = if_there (TypedEntry decls) (slice_get (entries_in decls) k) (slice_get p.types k) w.entry w.there (each_get (TypedEntry decls) (entries_in decls) p.types k checked.types) in
        let g = structure_typed decls w.groups y.0.body (subst (λ b. TypedTypeBody decls b y.0.body) w.is y.2.body) in
        structure_shaped (program_of p) (shape_within (program_of p) n) k (type_entry y.0) (groups_in g.0)
        (slice_get-map type_entry p.types k ∙ ap (option_map type_entry) y.1)
        (ap (λ b. fields_of (type_body b)) g.1)
        (groups_shown (unit_scope decls (unit_names decls)) Shallow Has (written_has (unit_scope decls (unit_names decls)) (unit_numbered decls)) w.groups g.0 g.2 (fields_say decls locals Shallow k w shallow))

    -- ---- classes

    abbrev ShallowIfKept : DeclaredVariable → Type 0
    ShallowIfKept v = is_of_instance v ≡ true → Shallow v.kind

    abbrev OwnShaped : ℕ → Type 0
    OwnShaped b = Every (ShapedVariable (shape_within (program_of p) n)) (own_of (class_at (program_of p) b))

    own_has : (b : ℕ) → IsClass decls b → Every ShallowIfKept (variables_of (scope decls locals) b) → OwnShaped b
    own_has b w h =
        let q : 0 + b ≡ b = omega arith in
        let s = class_scope decls (unit_names decls) b in
        let y = if_there (TypedClass decls (0 + b)) (slice_get (classes_in decls) b) (slice_get p.classes b) w.item w.there (from_get (TypedClass decls) 0 (classes_in decls) p.classes b checked.classes) in
        let typed : TypedClass decls b w.item y.0 = subst (λ c. TypedClass decls c w.item y.0) q y.2 in
        subst (λ o. Every (ShapedVariable (shape_within (program_of p) n)) (own_of o)) (sym (class_seen p b y.0 y.1))
        (kept_shown s Shallow Has (written_has s (unit_numbered decls)) (written.sections_in w.item.members) (sections_in y.0.members)
        (sections_typed decls b w.item.members y.0.members typed.members) (class_says decls locals Shallow b w.item w.there h))

    pub class_has : (c : ℕ) → IsClass decls c → list_any (has_depth (scope decls locals) n) (variable_kinds (scope decls locals) c) ≡ false → (sh : Shape) × (shape_by (program_of p) (shape_within (program_of p) n) (StType-F.Instance c) ≡ Some sh)
    class_has c w h =
        let s = scope decls locals in
        let bases = chain (classes_in decls) c in
        let declared = flat_map (variables_of s) bases in
        let kinds = none_deep s n (map (λ (v : DeclaredVariable). v.kind) (filter is_of_instance declared)) h in
        let kept = every_if_passing (λ (v : DeclaredVariable). Shallow v.kind) is_of_instance declared (every_map Shallow (λ (v : DeclaredVariable). v.kind) (filter is_of_instance declared) kinds) in
        let shallow = every_flat ShallowIfKept (variables_of s) bases kept in
        let there = chain_there (classes_in decls) c (slice_get_within (classes_in decls) c w.item w.there) in
        let owns = every_both (IsClass decls) (λ b. Every ShallowIfKept (variables_of s b)) OwnShaped own_has bases there shallow in
        let y = if_there (TypedClass decls (0 + c)) (slice_get (classes_in decls) c) (slice_get p.classes c) w.item w.there (from_get (TypedClass decls) 0 (classes_in decls) p.classes c checked.classes) in
        let seen = class_seen p c y.0 y.1 in
        instance_shaped (program_of p) (shape_within (program_of p) n) c (class_of p.classes p.interfaces c y.0) seen
        (variables_every p (ShapedVariable (shape_within (program_of p) n)) c (class_of p.classes p.interfaces c y.0) seen
        (subst (Every OwnShaped) (sym (chain_same decls (classes_in decls) p.classes checked.classes c)) owns))
