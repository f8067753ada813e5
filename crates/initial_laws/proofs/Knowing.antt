-- In each scope of a good unit that is formed all is known that initial values rest on, and all that declarations give is of its type.
use Rattle.std.proofs.Common.{◌≡◌, ℕ, Bool, true, false, List, [], ◌∷◌, ◌++◌, Option, Some, None, refl, sym, ap, ◌∙◌, subst}
use Rattle.std.specs.Prelude.{filter, option_map, slice_get, if◌then◌else◌}
use Rattle.std.specs.Option.{is_some}
use Rattle.plc_text.specs.Words.{same}
use Rattle.st_types.specs.declared.st_type.StType.{StType}
use Rattle.st_tree.specs.declared.declaration.ClassDecl.{ClassDecl}
use Rattle.st_tree.specs.declared.declaration.FieldGroup.{FieldGroup}
use Rattle.st_tree.specs.declared.declaration.ProgramDecl.{ProgramDecl}
use Rattle.st_tree.specs.declared.declaration.Section.{Section}
use Rattle.st_tree.specs.declared.declaration.TypeBody.{TypeBody}
use Rattle.st_tree.specs.declared.declaration.TypeBody.TheVariants as body
use Rattle.st_tree.specs.declared.declaration.TypeDecl.{TypeDecl}
use Rattle.st_tree.specs.declared.initial.Init.{Init}
use Rattle.st_tree.specs.declared.name.Name.{Name}
use Rattle.st_tree.specs.declared.program.Note.{Note}
use Rattle.st_tree.specs.declared.program.Program.{Program as Checked}
use Rattle.st_tree.specs.declared.type_spec.TypeSpec.{TypeSpec}
use Rattle.st_tree.specs.declared.unit.Decl.{Decl}
use Rattle.st_tree.specs.Initial.{initial_of}
use Rattle.st_rules.specs.declared.names.DeclaredType.{DeclaredType}
use Rattle.st_rules.specs.declared.names.DeclaredVariable.{DeclaredVariable}
use Rattle.st_rules.specs.Chains.{nearest, ◌or_else◌}
use Rattle.st_rules.specs.Classes.{classes_in, chain}
use Rattle.st_rules.specs.Expressions.{told}
use Rattle.st_rules.specs.Scope.{Scope, type_named, variable_named, is_of_instance, field_list, field_from, field_named, instance_entry, instance_variable}
use Rattle.st_rules.proofs.Booleans.{none≢some, some-same, false≢true}
use Rattle.st_unit_rules.specs.Checked.{TypedEntry, TypedTypeBody, IsChecked}
use Rattle.st_unit_rules.specs.Cycles.{Named, alone, before_dot, before_hash, named_in, inner_cycles}
use Rattle.st_unit_rules.specs.declared_names.Declarations.{a_program, Placed, placed, entries_in, programs_in}
use Rattle.st_unit_rules.specs.declared_names.UnitNames.{unit_names, unit_scope, class_scope, program_scope}
use Rattle.st_unit_rules.specs.declared_names.Variables.{Written, sections_written, sections_in}
use Rattle.st_unit_rules.specs.declared_names.WrittenTypes.{type_written, type_faults}
use Rattle.st_unit_rules.specs.DeclarationRules.{class_home, group_faults, field_given, program_limits}
use Rattle.st_unit_rules.specs.Initials.{typed_initial}
use Rattle.st_unit_rules.specs.UnitRefusal.{BreaksNothing}
use Rattle.st_unit_rules.specs.VariableRules.{Home, of_program, initial_if_given, instance_out_of_place, sections_faults}
use Rattle.st_values.specs.Program.{Variable, TypeEntry, Program}
use Rattle.st_values.specs.Shape.{values_of}
use Rattle.st_values.specs.View.{sections_in as seen_sections, texts, type_body, type_entry, program_of}
use Rattle.st_values.proofs.ShapeLaws.{mapped_some}
use Rattle.std.proofs.lemmas.Option.{slice_get-map}
use Rattle.resolution_order.specs.told_laws.ToldLaws.{Every}
use Rattle.accepted_texts.specs.formed_units.Formed as formed
use Rattle.accepted_texts.specs.formed_units.Formed.{FormedStart, FormedEntry, FormedGroup, FormedTypeBody, NotEmpty, FormedVars, IsFormed}
use Rattle.accepted_texts.specs.told_units.Formed.{IsFormedWritten}
use Rattle.accepted_texts.specs.told_units.Told.{AllTold, AllIsTold, WrittenIn, in_class, in_program}
use Rattle.accepted_texts.proofs.formed_texts.Texts.{formed_text_laws}
use Rattle.accepted_texts.proofs.formed_texts.Units.{over, FormedPart, all_parts, class_at as class_formed, part_at, sections_formed as members_formed}
use Rattle.accepted_texts.proofs.sized_units.Scopes.{parts_same, variables_same}
use Rattle.accepted_texts.proofs.sized_units.Told.{parts_are_told}
use Rattle.accepted_texts.proofs.sized_units.Variables.{IsOf}
use Rattle.accepted_texts.proofs.told_units.Law.{program-rules}
use Rattle.accepted_texts.proofs.told_units.Names.{IsToldNamed, named}
use Rattle.accepted_texts.proofs.unfolding_laws.ChainLaws.{sections_typed}
use Rattle.accepted_texts.proofs.unfolding_laws.CycleLaws.{none_in}
use Rattle.accepted_texts.proofs.unfolding_laws.ListLaws.{every_at, every_both, every_one, if_found, each_get}
use Rattle.constant_laws.specs.Given.{GivenIs, AllGiven}
use Rattle.initial_laws.proofs.Fields.{field_only, field_told}
use Rattle.initial_laws.proofs.Initials.{Knows, initial_is}
use Rattle.initial_laws.proofs.Items.{WrittenFine, WrittenFormed, sections_formed, sections_fine, class_fine}
use Rattle.initial_laws.proofs.Members.{member_only, member_told}
use Rattle.initial_laws.proofs.Parts.{FieldOf, Says, groups_say, kept_says, parts_say}
use Rattle.initial_laws.proofs.Places.{structure_rules, PlacedAt, all_at, of_sorts}
use Rattle.constant_laws.proofs.Scopes.{Sound, scope_fits, scope_types}
use Rattle.constant_laws.proofs.Steps.{entry_values, unit_sound, class_sound, written_sound}

first_type : (name : List ℕ) (ts : List DeclaredType) → Every (λ (t : DeclaredType). is_some t.kind ≡ true) ts → (d : DeclaredType) → type_named name ts ≡ Some d → is_some d.kind ≡ true
first_type name [] h d e = absurd (none≢some e)
first_type name (t ∷ ts) h d e = by (same t.name name) e (first_type name ts h.1 d)
  where
    by : (b : Bool) → (if b then Some t else type_named name ts) ≡ Some d → (type_named name ts ≡ Some d → is_some d.kind ≡ true) → is_some d.kind ≡ true
    by true q k = ap (λ (z : DeclaredType). is_some z.kind) (sym (some-same q)) ∙ h.0
    by false q k = k q

pub some_told : (o : Option StType) → is_some o ≡ true → (t : StType) × (o ≡ Some t)
some_told None h = absurd (false≢true h)
some_told (Some t) h = (t, refl)

module _ (most : ℕ) (decls : List (Decl ℕ)) (p : Checked) (fine : IsFormed most decls) (good : BreaksNothing decls) (checked : IsChecked decls p) where
  abbrev pub unit : Scope
  unit = unit_scope decls (unit_names decls)

  abbrev pub Seen : Program
  Seen = program_of p

  pub all_told : AllIsTold decls
  all_told = formed_text_laws.told most decls fine good

  -- ---- scopes

  module _ (c : Option ℕ) (m : Bool) (ls : List DeclaredVariable) where
    abbrev pub inside : Scope
    inside = record unit { class = c; in_method = m; locals = ls }

    -- names of parts mean the same in every scope
    field_same : (n : ℕ) (name : List ℕ) → field_named inside n name ≡ field_named unit n name
    field_same n name = ap (λ q. field_from 0 name (field_list q)) (parts_same unit c m ls n)

    entries_same : (name : List ℕ) (ks : List ℕ) → nearest (instance_entry inside name) ks ≡ nearest (instance_entry unit name) ks
    entries_same name [] = refl
    entries_same name (k ∷ ks) =
        ap (λ vs. option_map (λ v. (k, v)) (variable_named name (filter is_of_instance vs)) or_else nearest (instance_entry inside name) ks) (variables_same unit c m ls k)
        ∙ ap (λ o. instance_entry unit name k or_else o) (entries_same name ks)

    member_same : (k : ℕ) (name : List ℕ) → instance_variable inside k name ≡ instance_variable unit k name
    unfolding instance_variable
    member_same k name = entries_same name (chain (classes_in decls) k)

    each_named : AllTold inside → (x : Named) → IsToldNamed inside x
    each_named a (alone name) = a.names name
    each_named a (before_dot name) = (a.names name, first_type name (unit_names decls).types all_told.types)
    each_named a (before_hash l name) = first_type name (unit_names decls).types all_told.types

    pub knows : Sound Seen inside → AllTold inside → Knows Seen inside
    knows s a = record {
      types = scope_types Seen inside s;
      fit = scope_fits Seen inside s;
      told = λ e asked f n. named inside e asked (every_one (IsToldNamed inside) (each_named a) (named_in e)) f n;
      field = λ n name f e.
          let q = sym (field_same n name) ∙ e in
          let t = some_told f.1.kind (field_told decls p good checked n name f (parts_are_told decls all_told) q) in
          (t.0, t.1, field_only decls p good checked n name f t.0 q t.1);
      member = λ k name v e.
          let q = sym (member_same k name) ∙ e in
          let t = some_told v.1.kind (member_told decls good all_told k name v q) in
          (t.0, t.1, member_only decls good p checked k name v t.0 q t.1);
    }

  pub unit_knows : Knows Seen unit
  unit_knows = knows None false [] (unit_sound Seen decls (entry_values decls p checked)) all_told.unit

  pub class_knows : (c : ℕ) (d : ClassDecl ℕ) → slice_get (classes_in decls) c ≡ Some d → Knows Seen (class_scope decls (unit_names decls) c)
  class_knows c d e = knows (Some c) false [] (class_sound Seen decls (entry_values decls p checked) c) (all_told.scopes _ _ _ (in_class c d e))

  pub program_knows : (i : ℕ) (x : Placed) (d : ProgramDecl ℕ) → slice_get (placed decls) i ≡ Some x → x.declaration ≡ a_program d → Knows Seen (program_scope decls (unit_names decls) d)
  unfolding program_scope
  program_knows i x d e q = knows None false _ (written_sound Seen decls (entry_values decls p checked) _ _ _ (in_program i x d e q)) (all_told.scopes _ _ _ (in_program i x d e q))

  -- ---- what is given

  -- where the type is told
  pub given_is : (s : Scope) → Knows Seen s → (o : Option StType) → is_some o ≡ true → (i : Option (Init ℕ)) → FormedStart i → initial_if_given s o (option_map initial_of i) ≡ []
      → GivenIs Seen (told o) (option_map (λ k. typed_initial s o (initial_of k)) i)
  unfolding told
  given_is s k o h None n f = tt
  given_is s k None h (Some i) n f = absurd (false≢true h)
  given_is s k (Some t) h (Some i) n f = initial_is Seen s k (initial_of i) t n f

  abbrev pub Begins : Variable → Type 0
  Begins v = GivenIs Seen v.kind v.initial

  -- of a variable that is written
  pub written_begins : (s : Scope) → Knows Seen s → (h : Home) (v : Variable) (w : Written) → IsOf s v w → WrittenFine s h w → WrittenFormed w → is_some (type_written s w.item.kind) ≡ true → Begins v
  written_begins s k h v w i f n t =
      subst (λ o. GivenIs Seen v.kind o) (sym i.initial)
      (subst (λ u. GivenIs Seen u (option_map (λ j. typed_initial s (type_written s w.item.kind) (initial_of j)) w.item.initial)) (sym i.kind)
      (given_is s k (type_written s w.item.kind) t w.item.initial n.initial f.initial))

  -- ---- fields

  abbrev FieldFine : FieldGroup ℕ → Type 0
  FieldFine g = (group_faults decls g ≡ []) × FormedGroup g × (is_some (type_written unit g.kind) ≡ true)

  given_none : (g : FieldGroup ℕ) (i : Option (Init ℕ)) → field_given decls g i ≡ [] → initial_if_given unit (type_written unit g.kind) (option_map initial_of i) ≡ []
  given_none g None f = refl
  given_none g (Some i) f = f

  field_begins : (v : Variable) (g : FieldGroup ℕ) → FieldOf unit v g → FieldFine g → Begins v
  field_begins v g i f =
      let a = none_in (type_faults unit g.kind ++ instance_out_of_place _ false (type_written unit g.kind)) (field_given decls g g.initial) f.0 in
      subst (λ o. GivenIs Seen v.kind o) (sym i.initial)
      (subst (λ u. GivenIs Seen u (option_map (λ j. typed_initial unit (type_written unit g.kind) (initial_of j)) g.initial)) (sym i.kind)
      (given_is unit unit_knows (type_written unit g.kind) f.2 g.initial f.1.initial (given_none g g.initial a.1)))

  entry_formed : (n : ℕ) (t : TypeDecl ℕ) → slice_get (entries_in decls) n ≡ Some t → FormedEntry most t
  entry_formed n t e = every_at (FormedEntry most) (entries_in decls) n t (of_sorts (FormedPart most) decls (all_parts most decls fine)).entries e

  structure_formed : (t : TypeDecl ℕ) (gs : List (FieldGroup ℕ)) → FormedEntry most t → t.body ≡ body.Structure gs → Every FormedGroup gs
  structure_formed t gs h q = over FormedGroup FormedGroup (λ g k. k) gs (subst (FormedTypeBody most) q h.body)

  structure_fine : (n : ℕ) (t : TypeDecl ℕ) (gs : List (FieldGroup ℕ)) → slice_get (entries_in decls) n ≡ Some t → t.body ≡ body.Structure gs → Every FieldFine gs
  structure_fine n t gs e q =
      let rules = structure_rules decls good n t gs e q in
      let told_groups = (parts_are_told decls all_told).fields n t gs e q in
      let both_parts = every_both FormedGroup (λ (g : FieldGroup ℕ). is_some (type_written unit g.kind) ≡ true) (λ (g : FieldGroup ℕ). FormedGroup g × (is_some (type_written unit g.kind) ≡ true)) (λ g a b. (a, b)) gs (structure_formed t gs (entry_formed n t e) q) told_groups in
      every_both (λ (g : FieldGroup ℕ). group_faults decls g ≡ []) (λ (g : FieldGroup ℕ). FormedGroup g × (is_some (type_written unit g.kind) ≡ true)) FieldFine (λ g a b. (a, b.0, b.1)) gs rules both_parts

  -- ---- sections

  -- what the rules, the text and what is told say of a variable that is written
  abbrev pub Facts : Scope → Home → Written → Type 0
  Facts s h w = WrittenFine s h w × WrittenFormed w × (is_some (type_written s w.item.kind) ≡ true)

  pub sections_say : (s : Scope) (o : Option (TypeSpec ℕ)) (ss : List (Section ℕ)) → WrittenIn decls s o ss → (h : Home) → sections_faults s h ss ≡ [] → formed.Every FormedVars ss → Every (Facts s h) (sections_written ss)
  sections_say s o ss w h f n =
      let ws = sections_written ss in
      let a = sections_fine s h ss f in
      let b = sections_formed ss n in
      let shaped = (formed_text_laws.arguments most decls fine).inner s o ss w in
      let t = every_both (WrittenFine s h) IsFormedWritten (λ (u : Written). is_some (type_written s u.item.kind) ≡ true) (λ u x y. (all_told.scopes s o ss w).written u.item.kind y.0 x.kind) ws a shaped in
      every_both (WrittenFine s h) (λ (u : Written). WrittenFormed u × (is_some (type_written s u.item.kind) ≡ true)) (Facts s h) (λ u x y. (x, y.0, y.1)) ws a
      (every_both WrittenFormed (λ (u : Written). is_some (type_written s u.item.kind) ≡ true) (λ (u : Written). WrittenFormed u × (is_some (type_written s u.item.kind) ≡ true)) (λ u x y. (x, y)) ws b t)

  pub class_says : (c : ℕ) (d : ClassDecl ℕ) → slice_get (classes_in decls) c ≡ Some d → Every (Facts (class_scope decls (unit_names decls) c) (class_home decls d.sort)) (sections_written (sections_in d.members))
  class_says c d e = sections_say _ _ _ (in_class c d e) (class_home decls d.sort) (class_fine decls good c d e).sections (members_formed d.members (class_formed most decls fine c d e).members)

  -- a program with its place
  pub program_says : (d : ProgramDecl ℕ) (h : PlacedAt decls (a_program d)) → Every (Facts (program_scope decls (unit_names decls) d) of_program) (sections_written d.sections)
  program_says d h =
      let rules = program-rules decls good h.place h.item d h.there h.is in
      let but_body = none_in _ _ rules in
      let but_limits = none_in _ (program_limits decls (program_scope decls (unit_names decls) d) d) but_body.0 in
      let but_cycles = none_in _ (inner_cycles (sections_written d.sections)) but_limits.0 in
      let sections = none_in _ (sections_faults (program_scope decls (unit_names decls) d) of_program d.sections) but_cycles.0 in
      sections_say _ _ _ (in_program h.place h.item d h.there h.is) of_program sections.1 (part_at most decls fine h.place h.item (a_program d) h.there h.is).sections

  pub programs_at : (k : ℕ) (d : ProgramDecl ℕ) → slice_get (programs_in decls) k ≡ Some d → PlacedAt decls (a_program d)
  programs_at k d e = every_at (λ (x : ProgramDecl ℕ). PlacedAt decls (a_program x)) (programs_in decls) k d (of_sorts (PlacedAt decls) decls (all_at decls)).programs e

  -- ---- all

  all_begin : Says decls p checked Begins
  all_begin = record {
    fields = λ n t gs hs e q h. groups_say unit Begins FieldFine field_begins gs hs h (structure_fine n t gs e q);
    classes = λ c d y e t.
        let s = class_scope decls (unit_names decls) c in
        let h = class_home decls d.sort in
        kept_says s Begins (Facts s h) (λ v w i k f. written_begins s (class_knows c d e) h v w i f.0 f.1 f.2) (sections_in d.members) (seen_sections y.members) (sections_typed decls c d.members y.members t.members) (class_says c d e);
    programs = λ k d y e t.
        let s = program_scope decls (unit_names decls) d in
        let h = programs_at k d e in
        kept_says s Begins (Facts s of_program) (λ v w i j f. written_begins s (program_knows h.place h.item d h.there h.is) of_program v w i f.0 f.1 f.2) d.sections y.sections t.sections (program_says d h);
  }

  -- an enumeration has a value
  some_names : (ns : List Name) → NotEmpty ns → (v : List ℕ) × (ws : List (List ℕ)) × (texts ns ≡ v ∷ ws)
  some_names [] h = absurd h
  some_names (n ∷ ns) h = (n.text, texts ns, refl)

  body_values : (a : TypeBody ℕ) (b : TypeBody Note) (vs : List (List ℕ)) → FormedTypeBody most a → TypedTypeBody decls a b → values_of (type_body b) ≡ Some vs → (v : List ℕ) × (ws : List (List ℕ)) × (vs ≡ v ∷ ws)
  body_values (body.Enumeration ns) (body.Enumeration ms) vs f t e =
      let s = some_names ns (f.0).some in
      (s.0, s.1, sym (some-same e) ∙ (ap texts t ∙ s.2))
  body_values (body.Enumeration ns) (body.Alias y) vs f t e = absurd t
  body_values (body.Enumeration ns) (body.Structure hs) vs f t e = absurd t
  body_values (body.Alias x) (body.Alias y) vs f t e = absurd (none≢some e)
  body_values (body.Alias x) (body.Enumeration ms) vs f t e = absurd t
  body_values (body.Alias x) (body.Structure hs) vs f t e = absurd t
  body_values (body.Structure gs) (body.Structure hs) vs f t e = absurd (none≢some e)
  body_values (body.Structure gs) (body.Alias y) vs f t e = absurd t
  body_values (body.Structure gs) (body.Enumeration ms) vs f t e = absurd t

  entry_has : (n : ℕ) (x : TypeEntry) (vs : List (List ℕ)) → slice_get Seen.types n ≡ Some x → values_of x.body ≡ Some vs → (v : List ℕ) × (ws : List (List ℕ)) × (vs ≡ v ∷ ws)
  entry_has n x vs e f =
      let y = mapped_some type_entry (slice_get p.types n) x (sym (slice_get-map type_entry p.types n) ∙ e) in
      let t = if_found (TypedEntry decls) (slice_get (entries_in decls) n) (slice_get p.types n) y.0 y.1 (each_get (TypedEntry decls) (entries_in decls) p.types n checked.types) in
      body_values (t.0).body (y.0).body vs (entry_formed n t.0 t.1).body (t.2).body (ap (λ (z : TypeEntry). values_of z.body) y.2 ∙ f)

  -- what all declarations give is of its type
  pub all_given : AllGiven Seen
  all_given = record { part = parts_say decls p checked Begins all_begin; values = entry_has }
