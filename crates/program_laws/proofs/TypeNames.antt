-- No two entries of TYPE have one name, and no field of a structure is marked.
use Rattle.std.proofs.Common.{◌≡◌, ℕ, false, List, [], ◌∷◌, ◌++◌, map, Some, refl, sym, ap, ◌∙◌, subst}
use Rattle.std.specs.Prelude.{flat_map, slice_get}
use Rattle.std.proofs.lemmas.Option.{slice_get-map}
use Rattle.plc_text.specs.Words.{same}
use Rattle.st_tree.specs.declared.declaration.FieldGroup.{FieldGroup}
use Rattle.st_tree.specs.declared.declaration.TypeBody.{TypeBody}
use Rattle.st_tree.specs.declared.declaration.TypeBody.TheVariants as body
use Rattle.st_tree.specs.declared.declaration.TypeDecl.{TypeDecl}
use Rattle.st_tree.specs.declared.name.Name.{Name}
use Rattle.st_tree.specs.declared.program.Note.{Note}
use Rattle.st_tree.specs.declared.program.Program.{Program as Checked}
use Rattle.st_tree.specs.declared.unit.Decl.{Decl}
use Rattle.st_tree.specs.declared.unit.Decl.TheVariants as declaration
use Rattle.st_tree.specs.Reads.{no_marks}
use Rattle.st_rules.proofs.Booleans.{none≢some, some-same}
use Rattle.st_unit_rules.specs.Checked.{Each, TypedEntry, IsChecked}
use Rattle.st_unit_rules.specs.declared_names.Declarations.{an_entry, declarations_of, declarations, globals_of_section, configuration_globals, entries_in}
use Rattle.st_unit_rules.specs.UnitRefusal.{BreaksNothing}
use Rattle.st_values.specs.Program.{Variable, TypeEntry}
use Rattle.st_values.specs.Shape.{fields_of}
use Rattle.st_values.specs.View.{group_variables, groups_in, type_body, type_entry, program_of}
use Rattle.st_values.proofs.ShapeLaws.{mapped_some}
use Rattle.resolution_order.specs.told_laws.ToldLaws.{Every}
use Rattle.accepted_texts.proofs.unfolding_laws.ListLaws.{every_append, every_back, every_front, every_map, every_mapped}
use Rattle.declaration_laws.proofs.Numbered.{Pairs, pairs_back, Differs, all_differ}
use Rattle.initial_laws.proofs.Names.{Unique}
use Rattle.initial_laws.proofs.Places.{sorts_from}

-- ---- names of types

abbrev entry_names : List (TypeDecl ℕ) → List (List ℕ)
entry_names ts = map (λ (t : TypeDecl ℕ). t.name.text) ts

-- the entries of one TYPE, before the declarations behind it
entries_before : (ts : List (TypeDecl ℕ)) (ds : List (Decl ℕ)) → Pairs Differs (map an_entry ts ++ flat_map declarations_of ds) → Unique (entry_names (entries_in ds)) → Unique (entry_names (ts ++ entries_in ds))
entries_before [] ds h u = u
entries_before (t ∷ ts) ds h u =
    let own = every_map (Differs (an_entry t)) an_entry ts (every_front (Differs (an_entry t)) (map an_entry ts) (flat_map declarations_of ds) h.0) in
    let behind = (sorts_from (Differs (an_entry t)) ds (every_back (Differs (an_entry t)) (map an_entry ts) (flat_map declarations_of ds) h.0)).entries in
    let P = λ (n : List ℕ). same t.name.text n ≡ false in
    (every_mapped P (λ (x : TypeDecl ℕ). x.name.text) (ts ++ entries_in ds) (every_append (λ (x : TypeDecl ℕ). P x.name.text) ts (entries_in ds) own behind), entries_before ts ds h.1 u)

entries_unique : (ds : List (Decl ℕ)) → Pairs Differs (flat_map declarations_of ds) → Unique (entry_names (entries_in ds))
entries_unique [] h = tt
entries_unique (declaration.Types l ts ∷ ds) h = entries_before ts ds h (entries_unique ds (pairs_back Differs (map an_entry ts) (flat_map declarations_of ds) h))
entries_unique (declaration.Globals s ∷ ds) h = entries_unique ds (pairs_back Differs (globals_of_section s) (flat_map declarations_of ds) h)
entries_unique (declaration.Interface d ∷ ds) h = entries_unique ds h.1
entries_unique (declaration.Class d ∷ ds) h = entries_unique ds h.1
entries_unique (declaration.Function d ∷ ds) h = entries_unique ds h.1
entries_unique (declaration.Program d ∷ ds) h = entries_unique ds h.1
entries_unique (declaration.Configuration c ∷ ds) h = entries_unique ds (pairs_back Differs (flat_map globals_of_section (configuration_globals c)) (flat_map declarations_of ds) h.1)

module _ (decls : List (Decl ℕ)) where
  entries_seen : (xs : List (TypeDecl ℕ)) (ys : List (TypeDecl Note)) → Each (TypedEntry decls) xs ys → map (λ (t : TypeEntry). t.name) (map type_entry ys) ≡ entry_names xs
  entries_seen [] [] h = refl
  entries_seen [] (y ∷ ys) h = absurd h
  entries_seen (x ∷ xs) [] h = absurd h
  entries_seen (x ∷ xs) (y ∷ ys) h = ap (λ (n : Name). n.text ∷ map (λ (t : TypeEntry). t.name) (map type_entry ys)) h.0.name ∙ ap (λ ns. x.name.text ∷ ns) (entries_seen xs ys h.1)

  unit_types : BreaksNothing decls → Unique (entry_names (entries_in decls))
  unfolding declarations
  unit_types good = entries_unique decls (all_differ decls good)

  pub types_unique : BreaksNothing decls → (p : Checked) → IsChecked decls p → Unique (map (λ (t : TypeEntry). t.name) (program_of p).types)
  types_unique good p checked = subst Unique (sym (entries_seen (entries_in decls) p.types checked.types)) (unit_types good)

-- ---- marks of fields

abbrev Unmarked : Variable → Type 0
Unmarked v = v.marks ≡ no_marks

group_unmarked : (g : FieldGroup Note) (ns : List Name) → Every Unmarked (group_variables g ns)
group_unmarked g [] = tt
group_unmarked g (n ∷ ns) = (refl, group_unmarked g ns)

groups_unmarked : (gs : List (FieldGroup Note)) → Every Unmarked (groups_in gs)
groups_unmarked [] = tt
groups_unmarked (g ∷ gs) = every_append Unmarked (group_variables g g.names) (groups_in gs) (group_unmarked g g.names) (groups_unmarked gs)

body_unmarked : (b : TypeBody Note) (vs : List Variable) → fields_of (type_body b) ≡ Some vs → Every Unmarked vs
body_unmarked (body.Alias t) vs e = absurd (none≢some e)
body_unmarked (body.Enumeration ns) vs e = absurd (none≢some e)
body_unmarked (body.Structure gs) vs e = subst (Every Unmarked) (some-same e) (groups_unmarked gs)

pub fields_unmarked : (p : Checked) (n : ℕ) (x : TypeEntry) (vs : List Variable) → slice_get (program_of p).types n ≡ Some x → fields_of x.body ≡ Some vs → Every Unmarked vs
fields_unmarked p n x vs e f =
    let y = mapped_some type_entry (slice_get p.types n) x (sym (slice_get-map type_entry p.types n) ∙ e) in
    body_unmarked (y.0).body vs (ap (λ (z : TypeEntry). fields_of z.body) y.2 ∙ f)
