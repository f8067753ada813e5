-- No two fields of a structure have one name, and none is marked.
use Rattle.std.proofs.Common.{◌≡◌, ℕ, List, [], ◌∷◌, ◌++◌, Some, refl, sym, ap, ◌∙◌, subst}
use Rattle.std.specs.Prelude.{slice_get}
use Rattle.std.proofs.lemmas.List.{map-append}
use Rattle.std.proofs.lemmas.Option.{slice_get-map}
use Rattle.st_tree.specs.declared.declaration.FieldGroup.{FieldGroup}
use Rattle.st_tree.specs.declared.declaration.TypeBody.{TypeBody}
use Rattle.st_tree.specs.declared.declaration.TypeBody.TheVariants as body
use Rattle.st_tree.specs.declared.name.Name.{Name}
use Rattle.st_tree.specs.declared.program.Note.{Note}
use Rattle.st_tree.specs.declared.program.Program.{Program as Checked}
use Rattle.st_tree.specs.declared.unit.Decl.{Decl}
use Rattle.st_rules.proofs.Booleans.{none≢some, some-same}
use Rattle.st_unit_rules.specs.Checked.{Each, TypedGroup, TypedEntry, TypedTypeBody, IsChecked}
use Rattle.st_unit_rules.specs.declared_names.Declarations.{entries_in}
use Rattle.st_unit_rules.specs.declared_names.UnitNames.{unit_names, unit_scope}
use Rattle.st_unit_rules.specs.NameRules.{texts, field_names, part_names, space_faults}
use Rattle.st_unit_rules.specs.UnitRefusal.{BreaksNothing}
use Rattle.st_values.specs.Program.{Variable, TypeEntry}
use Rattle.st_values.specs.Shape.{fields_of}
use Rattle.st_values.specs.View.{group_variables, groups_in, type_body, type_entry, program_of}
use Rattle.st_values.proofs.ShapeLaws.{mapped_some}
use Rattle.accepted_texts.proofs.unfolding_laws.ListLaws.{every_at, if_found, each_get}
use Rattle.initial_laws.proofs.Names.{Unique, space_unique}
use Rattle.initial_laws.proofs.Places.{EntryFine, entries_fine}
use Rattle.program_laws.proofs.Differing.{variable_names}

module _ (decls : List (Decl ℕ)) where
  group_names : (h : FieldGroup Note) (ns : List Name) → variable_names (group_variables h ns) ≡ texts ns
  group_names h [] = refl
  group_names h (n ∷ ns) = ap (λ ts. n.text ∷ ts) (group_names h ns)

  -- the fields as they are seen have the names that are written
  groups_names : (gs : List (FieldGroup ℕ)) (hs : List (FieldGroup Note)) → Each (TypedGroup (unit_scope decls (unit_names decls))) gs hs → variable_names (groups_in hs) ≡ texts (field_names gs)
  groups_names [] [] t = refl
  groups_names [] (h ∷ hs) t = absurd t
  groups_names (g ∷ gs) [] t = absurd t
  groups_names (g ∷ gs) (h ∷ hs) t =
      map-append (λ (v : Variable). v.name) (group_variables h h.names) (groups_in hs)
      ∙ (ap (λ ts. ts ++ variable_names (groups_in hs)) (group_names h h.names ∙ ap texts t.0.names)
      ∙ (ap (λ ts. texts g.names ++ ts) (groups_names gs hs t.1) ∙ sym (map-append (λ (n : Name). n.text) g.names (field_names gs))))

  module _ (good : BreaksNothing decls) (p : Checked) (checked : IsChecked decls p) where
    of_body : (a : TypeBody ℕ) (b : TypeBody Note) → space_faults (part_names a) ≡ [] → TypedTypeBody decls a b → (vs : List Variable) → fields_of (type_body b) ≡ Some vs → Unique (variable_names vs)
    of_body (body.Alias x) (body.Alias y) s t vs e = absurd (none≢some e)
    of_body (body.Enumeration ns) (body.Enumeration ms) s t vs e = absurd (none≢some e)
    of_body (body.Structure gs) (body.Structure hs) s t vs e = subst (λ us. Unique (variable_names us)) (some-same e) (subst Unique (sym (groups_names gs hs t)) (space_unique (field_names gs) s))
    of_body (body.Alias x) (body.Enumeration ms) s t vs e = absurd t
    of_body (body.Alias x) (body.Structure hs) s t vs e = absurd t
    of_body (body.Enumeration ns) (body.Alias y) s t vs e = absurd t
    of_body (body.Enumeration ns) (body.Structure hs) s t vs e = absurd t
    of_body (body.Structure gs) (body.Alias y) s t vs e = absurd t
    of_body (body.Structure gs) (body.Enumeration ms) s t vs e = absurd t

    pub structure_unique : (n : ℕ) (x : TypeEntry) (vs : List Variable) → slice_get (program_of p).types n ≡ Some x → fields_of x.body ≡ Some vs → Unique (variable_names vs)
    structure_unique n x vs e f =
        let y = mapped_some type_entry (slice_get p.types n) x (sym (slice_get-map type_entry p.types n) ∙ e) in
        let t = if_found (TypedEntry decls) (slice_get (entries_in decls) n) (slice_get p.types n) y.0 y.1 (each_get (TypedEntry decls) (entries_in decls) p.types n checked.types) in
        let fine = every_at (EntryFine decls good) (entries_in decls) n t.0 (entries_fine decls good) t.1 in
        of_body (t.0).body (y.0).body fine.names (t.2).body vs (ap (λ (z : TypeEntry). fields_of z.body) y.2 ∙ f)
