-- Fields and enumerations of a unit, as its checked program shows them.
use Rattle.std.proofs.Common.{◌≡◌, ℕ, suc, ◌+◌, Bool, true, false, List, [], ◌∷◌, map, Option, Some, None, refl, sym, ap, ◌∙◌, subst, arith}
use Rattle.std.specs.Prelude.{if◌then◌else◌, flat_map, option_map, slice_get}
use Rattle.std.proofs.lemmas.Option.{slice_get-map}
use Rattle.plc_text.specs.Words.{same}
use Rattle.st_types.specs.declared.st_type.StType.{StType}
use Rattle.st_types.specs.declared.st_type.StType.TheVariants as type
use Rattle.st_tree.specs.declared.declaration.FieldGroup.{FieldGroup}
use Rattle.st_tree.specs.declared.declaration.TypeBody.{TypeBody}
use Rattle.st_tree.specs.declared.declaration.TypeBody.TheVariants as body
use Rattle.st_tree.specs.declared.declaration.TypeDecl.{TypeDecl}
use Rattle.st_tree.specs.declared.program.Note.{Note}
use Rattle.st_tree.specs.declared.program.Program.{Program as Checked}
use Rattle.st_tree.specs.declared.unit.Decl.{Decl}
use Rattle.st_rules.specs.declared.names.DeclaredField.{DeclaredField}
use Rattle.st_rules.specs.declared.names.DeclaredNames.{DeclaredNames}
use Rattle.st_rules.specs.declared.names.DeclaredVariable.{DeclaredVariable}
use Rattle.st_rules.specs.Scope.{field_from, field_list, field_named, parts_of}
use Rattle.st_rules.proofs.Booleans.{none≢some, some-same}
use Rattle.st_unit_rules.specs.declared_names.Declarations.{entries_in}
use Rattle.st_unit_rules.specs.declared_names.UnitNames.{unit_names, unit_scope, names_from, group_declared, parts_declared}
use Rattle.st_unit_rules.specs.Checked.{Each, TypedEntry, TypedGroup, TypedTypeBody, IsChecked}
use Rattle.st_values.specs.Shape.{fields_of}
use Rattle.st_values.specs.View.{groups_in, type_body, type_entry, program_of}
use Rattle.st_meaning.specs.st_frame.Promise.Places.{FieldIs}
use Rattle.resolution_order.proofs.told_laws.Telling.{told_laws}
use Rattle.accepted_texts.specs.told_units.Told.{AllIsTold}
use Rattle.accepted_texts.proofs.unfolding_laws.ListLaws.{if_there, if_found, each_get}
use Rattle.accepted_texts.proofs.unfolding_laws.DeclaredLaws.{parts_in, scope, fields_are}
use Rattle.accepted_texts.proofs.unfolding_laws.NumberLaws.{IsStructure}
use Rattle.accepted_texts.proofs.sized_units.Shown.{Alike, groups_alike}
use Rattle.accepted_texts.proofs.sized_units.Sound.{Sound, unit_sound}
use Rattle.accepted_texts.proofs.sized_units.Told.{parts_are_told}

-- the place of a field
field_place : (k : ℕ) (name : List ℕ) (fs : List DeclaredField) (f : ℕ × DeclaredField) → field_from k name fs ≡ Some f → (i : ℕ) × (f.0 ≡ k + i) × (slice_get fs i ≡ Some f.1)
field_place k name [] f e = absurd (none≢some e)
field_place k name (x ∷ fs) f e = by (same x.name name) (field_place (suc k) name fs f) e
  where
    by : (b : Bool) → (field_from (suc k) name fs ≡ Some f → (i : ℕ) × (f.0 ≡ suc k + i) × (slice_get fs i ≡ Some f.1)) → (if b then Some (k, x) else field_from (suc k) name fs) ≡ Some f → (i : ℕ) × (f.0 ≡ k + i) × (slice_get (x ∷ fs) i ≡ Some f.1)
    by true later h =
        let q = some-same h in
        let z : k ≡ k + 0 = omega arith in
        (0, sym (ap (λ (y : ℕ × DeclaredField). y.0) q) ∙ z, ap (λ (y : ℕ × DeclaredField). Some y.1) q)
    by false later h =
        let r = later h in
        let z : suc k + r.0 ≡ k + suc r.0 = omega arith in
        (suc r.0, r.1 ∙ z, r.2)

module _ (decls : List (Decl ℕ)) (p : Checked) (checked : IsChecked decls p) (all : AllIsTold decls) (locals : List DeclaredVariable) where
  -- ---- what the parts of a type are

  parts_seen : (n : ℕ) → parts_of (scope decls locals) n ≡ parts_in (option_map (λ (t : TypeDecl ℕ). parts_declared decls (unit_names decls) t.body) (slice_get (entries_in decls) n))
  unfolding names_from parts_in
  parts_seen n =
      ap parts_in (ap (λ (a : DeclaredNames). slice_get a.parts n) (sym (told_laws.settled decls)) ∙ slice_get-map (λ (t : TypeDecl ℕ). parts_declared decls (unit_names decls) t.body) (entries_in decls) n)

  structure_of : (n : ℕ) (name : List ℕ) (f : ℕ × DeclaredField) → field_named (scope decls locals) n name ≡ Some f → IsStructure decls n
  unfolding parts_in
  structure_of n name f e = by (slice_get (entries_in decls) n) refl (sym (ap (λ x. field_from 0 name (field_list x)) (parts_seen n)) ∙ e)
    where
      of_body : (t : TypeDecl ℕ) (b : TypeBody ℕ) → slice_get (entries_in decls) n ≡ Some t → t.body ≡ b → field_from 0 name (field_list (parts_declared decls (unit_names decls) b)) ≡ Some f → IsStructure decls n
      of_body t (body.Structure gs) q h k = record { entry = t; groups = gs; there = q; is = h }
      of_body t (body.Alias u) q h k = absurd (none≢some k)
      of_body t (body.Enumeration ns) q h k = absurd (none≢some k)

      by : (o : Option (TypeDecl ℕ)) → slice_get (entries_in decls) n ≡ o → field_from 0 name (field_list (parts_in (option_map (λ (t : TypeDecl ℕ). parts_declared decls (unit_names decls) t.body) o))) ≡ Some f → IsStructure decls n
      by None q h = absurd (none≢some h)
      by (Some t) q h = of_body t t.body q refl h

  structure_typed : (gs : List (FieldGroup ℕ)) (b : TypeBody Note) → TypedTypeBody decls (body.Structure gs) b → (hs : List (FieldGroup Note)) × (b ≡ body.Structure hs) × Each (TypedGroup (unit_scope decls (unit_names decls))) gs hs
  structure_typed gs (body.Structure hs) h = (hs, refl, h)
  structure_typed gs (body.Alias u) h = absurd h
  structure_typed gs (body.Enumeration ns) h = absurd h

  -- ---- a field by its name

  pub record FieldShown (n : ℕ) (f : ℕ × DeclaredField) : Type 0 where
    pub kind : StType
    pub told : f.1.kind ≡ Some kind
    pub is : FieldIs (program_of p) (type.Structure n) f.0 kind
    pub sound : Sound decls kind

  pub field_shown : (n : ℕ) (name : List ℕ) (f : ℕ × DeclaredField) → field_named (scope decls locals) n name ≡ Some f → FieldShown n f
  field_shown n name f e =
      let h = structure_of n name f e in
      let fs = flat_map (group_declared decls (unit_names decls)) h.groups in
      let place = field_place 0 name fs f (sym (ap (field_from 0 name) (fields_are decls locals n h)) ∙ e) in
      let y = if_there (TypedEntry decls) (slice_get (entries_in decls) n) (slice_get p.types n) h.entry h.there (each_get (TypedEntry decls) (entries_in decls) p.types n checked.types) in
      let b = structure_typed h.groups (y.0).body (subst (λ z. TypedTypeBody decls z (y.0).body) h.is (y.2).body) in
      let alike = groups_alike decls (unit_sound decls) h.groups b.0 b.2 ((parts_are_told decls all).fields n h.entry h.groups h.there h.is) in
      let kinds = map (λ (g : DeclaredField). g.kind) fs in
      let v = if_found (Alike decls) (slice_get (groups_in b.0) place.0) (slice_get kinds place.0) f.1.kind
      (slice_get-map (λ (g : DeclaredField). g.kind) fs place.0 ∙ ap (option_map (λ (g : DeclaredField). g.kind)) place.2) (each_get (Alike decls) (groups_in b.0) kinds place.0 alike) in
      let z : place.0 ≡ f.0 = let q = place.1 in omega (arith, q) in
      record {
        kind = (v.0).kind;
        told = (v.2).is;
        is = (
          type_entry y.0,
          groups_in b.0,
          slice_get-map type_entry p.types n ∙ ap (option_map type_entry) y.1,
          ap (λ x. fields_of (type_body x)) b.1,
          (v.0, ap (slice_get (groups_in b.0)) (sym z) ∙ v.1, refl),
        );
        sound = (v.2).sound;
      }
