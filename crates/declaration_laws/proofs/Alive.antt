-- In a good unit that is formed no part of a type, and no region, has an instance of an abstract class.
use Rattle.std.proofs.Common.{◌≡◌, ℕ, ◌+◌, Bool, true, false, List, [], length, Option, Some, None, refl, sym, ap, ◌∙◌, subst, inl, inr, arith}
use Rattle.std.specs.Prelude.{◌&&◌, not, option_map, option_and_then, slice_get}
use Rattle.std.proofs.lemmas.Option.{slice_get-map, slice_get_within}
use Rattle.plc_text.specs.declared.code.Code.TheVariants.{E07}
use Rattle.st_types.specs.declared.st_type.StType.{StType}
use Rattle.st_types.specs.declared.st_type.StType.TheVariants as type
use Rattle.st_tree.specs.declared.configuration.InstanceSpec.{InstanceSpec}
use Rattle.st_tree.specs.declared.declaration.ClassDecl.{ClassDecl}
use Rattle.st_tree.specs.declared.declaration.FieldGroup.{FieldGroup}
use Rattle.st_tree.specs.declared.declaration.Item.{Item}
use Rattle.st_tree.specs.declared.declaration.ProgramDecl.{ProgramDecl}
use Rattle.st_tree.specs.declared.declaration.SectionSort.{SectionSort}
use Rattle.st_tree.specs.declared.declaration.SectionSort.TheVariants as sort
use Rattle.st_tree.specs.declared.program.Program.{Program as Checked}
use Rattle.st_tree.specs.declared.program.RegionDecl.{RegionDecl}
use Rattle.st_tree.specs.declared.unit.Decl.{Decl}
use Rattle.st_tree.specs.Declarations.{is_global}
use Rattle.st_rules.specs.Classes.{classes_in}
use Rattle.st_rules.specs.Expressions.{told}
use Rattle.st_rules.specs.Kinds.{holds_instances-Elementary}
use Rattle.st_rules.specs.Modifiers.{is_abstract}
use Rattle.st_rules.specs.Numbered.{passes_if_there}
use Rattle.st_rules.specs.Scope.{Scope, is_instance_sort}
use Rattle.st_rules.proofs.Booleans.{both, false≢true}
use Rattle.st_unit_rules.specs.Checked.{TypedRegion, IsChecked, unit_regions}
use Rattle.st_unit_rules.specs.declared_names.Declarations.{Declaration, an_entry, a_global, an_interface, a_class, a_function, a_program, a_configuration, Region, of_global, of_instance, declarations, programs_in}
use Rattle.st_unit_rules.specs.declared_names.UnitNames.{unit_names, unit_scope, class_scope, program_scope}
use Rattle.st_unit_rules.specs.declared_names.Variables.{Written, sections_written, sections_in, is_kept_written}
use Rattle.st_unit_rules.specs.declared_names.WrittenTypes.{type_written, type_faults}
use Rattle.st_unit_rules.specs.DeclarationRules.{class_home, group_faults, field_given}
use Rattle.st_unit_rules.specs.UnitRefusal.{BreaksNothing}
use Rattle.st_unit_rules.specs.VariableRules.{Home, of_class, of_block, of_program, of_routine, of_prototype, of_globals, may_hold_instances, holds_instances_told, class_held, is_abstract_class, makes_instances}
use Rattle.st_values.specs.Program as seen
use Rattle.st_values.specs.Program.{Variable}
use Rattle.st_values.specs.View.{sections_in as seen_sections, region_of, program_of}
use Rattle.st_values.proofs.ShapeLaws.{mapped_some}
use Rattle.st_meaning.specs.st_frame.Promise.Calls.{HasInstance}
use Rattle.resolution_order.specs.told_laws.ToldLaws.{Every}
use Rattle.accepted_texts.specs.formed_units.Formed.{IsFormed}
use Rattle.accepted_texts.proofs.sized_units.Variables.{IsOf}
use Rattle.accepted_texts.proofs.unfolding_laws.ChainLaws.{sections_typed}
use Rattle.accepted_texts.proofs.unfolding_laws.CycleLaws.{none_in, not_when}
use Rattle.accepted_texts.proofs.unfolding_laws.ListLaws.{every_at, every_both, every_one, if_found, each_get}
use Rattle.accepted_texts.proofs.unfolding_laws.RegionLaws.{OfRegion, OfGlobal, each_program, all_regions}
use Rattle.constant_laws.specs.Given.{IsPart}
use Rattle.initial_laws.proofs.Items.{ItemFine, WrittenFine, class_fine, sections_fine, program_fine, global_fine}
use Rattle.declaration_laws.proofs.Living.{held-Instance, Lives, TypeLives, instance_lives}
use Rattle.initial_laws.proofs.Parts.{FieldOf, Says, groups_say, kept_says, parts_say}
use Rattle.initial_laws.proofs.Places.{IsGlobalSort, PlacedAt, all_at, rules_at, structure_rules, globals_are}

pub no_input : (h : Home) → may_hold_instances h sort.Input ≡ false
no_input of_class = refl
no_input of_block = refl
no_input of_program = refl
no_input of_routine = refl
no_input of_prototype = refl
no_input of_globals = refl

pub no_output : (h : Home) → may_hold_instances h sort.Output ≡ false
no_output of_class = refl
no_output of_block = refl
no_output of_program = refl
no_output of_routine = refl
no_output of_prototype = refl
no_output of_globals = refl

module _ (decls : List (Decl ℕ)) where
  holds_none : (o : Option StType) → holds_instances_told o ≡ false → TypeLives decls (told o)
  unfolding told
  holds_none None h = inl (holds_instances-Elementary _)
  holds_none (Some t) h = inl h

  lives_told : (o : Option StType) → is_abstract_class (classes_in decls) (option_and_then class_held o) ≡ false → TypeLives decls (told o)
  unfolding told
  lives_told None h = inl (holds_instances-Elementary _)
  lives_told (Some t) h = inr h

  -- of what an instance keeps
  kept_lives : (h : Home) (so : SectionSort) (o : Option StType) → is_instance_sort so ≡ true → (not (may_hold_instances h so) && holds_instances_told o) ≡ false → (makes_instances so && is_abstract_class (classes_in decls) (option_and_then class_held o)) ≡ false → TypeLives decls (told o)
  kept_lives h sort.Var o i a b = lives_told o b
  kept_lives h sort.Input o i a b = holds_none o (sym (ap (λ z. not z && holds_instances_told o) (no_input h)) ∙ a)
  kept_lives h sort.Output o i a b = holds_none o (sym (ap (λ z. not z && holds_instances_told o) (no_output h)) ∙ a)
  kept_lives h sort.InOut o i a b = absurd (false≢true i)
  kept_lives h sort.Temp o i a b = absurd (false≢true i)
  kept_lives h sort.External o i a b = absurd (false≢true i)
  kept_lives h sort.Global o i a b = absurd (false≢true i)

  global_lives : (so : SectionSort) (o : Option StType) → is_global so ≡ true → (makes_instances so && is_abstract_class (classes_in decls) (option_and_then class_held o)) ≡ false → TypeLives decls (told o)
  global_lives sort.Global o i b = lives_told o b
  global_lives sort.Var o i b = absurd (false≢true i)
  global_lives sort.Input o i b = absurd (false≢true i)
  global_lives sort.Output o i b = absurd (false≢true i)
  global_lives sort.InOut o i b = absurd (false≢true i)
  global_lives sort.Temp o i b = absurd (false≢true i)
  global_lives sort.External o i b = absurd (false≢true i)

  -- a program's number is that of no class
  program_lives : (k : ℕ) → Lives decls (Some (length (classes_in decls) + k))
  program_lives k = by (slice_get (classes_in decls) (length (classes_in decls) + k)) refl
    where
      by : (o : Option (ClassDecl ℕ)) → slice_get (classes_in decls) (length (classes_in decls) + k) ≡ o → passes_if_there (λ (d : ClassDecl ℕ). is_abstract d.modifiers) o ≡ false
      by None e = refl
      by (Some d) e = let l = slice_get_within (classes_in decls) (length (classes_in decls) + k) d e in absurd (omega (arith, l))

module _ (most : ℕ) (decls : List (Decl ℕ)) (p : Checked) (formed : IsFormed most decls) (good : BreaksNothing decls) (checked : IsChecked decls p) where
  abbrev unit : Scope
  unit = unit_scope decls (unit_names decls)

  abbrev Alive : Variable → Type 0
  Alive v = TypeLives decls v.kind

  one_kept : (s : Scope) (h : Home) → s.classes ≡ classes_in decls → (v : Variable) (w : Written) → IsOf s v w → is_kept_written w ≡ true → WrittenFine s h w → Alive v
  one_kept s h c v w i k f =
      let so = both (is_instance_sort w.sort) (not w.constant) k in
      subst (TypeLives decls) (sym i.kind)
      (kept_lives decls h w.sort (type_written s w.item.kind) so.0 f.instances (subst (λ cs. (makes_instances w.sort && is_abstract_class cs (option_and_then class_held (type_written s w.item.kind))) ≡ false) c f.living))

  one_field : (v : Variable) (g : FieldGroup ℕ) → FieldOf unit v g → group_faults decls g ≡ [] → Alive v
  one_field v g i f =
      let a = none_in _ (field_given decls g g.initial) f in
      let b = none_in (type_faults unit g.kind) _ a.0 in
      subst (TypeLives decls) (sym i.kind) (holds_none decls (type_written unit g.kind) (not_when (holds_instances_told (type_written unit g.kind)) E07 _ b.1))

  program_same : (d : ProgramDecl ℕ) → (program_scope decls (unit_names decls) d).classes ≡ classes_in decls
  unfolding program_scope
  program_same d = refl

  all_alive : Says decls p checked Alive
  all_alive = record {
    fields = λ n t gs hs e q h. groups_say unit Alive (λ g. group_faults decls g ≡ []) one_field gs hs h (structure_rules decls good n t gs e q);
    classes = λ c d y e t.
        let s = class_scope decls (unit_names decls) c in
        let h = class_home decls d.sort in
        kept_says s Alive (WrittenFine s h) (one_kept s h refl) (sections_in d.members) (seen_sections y.members) (sections_typed decls c d.members y.members t.members)
        (sections_fine s h (sections_in d.members) (class_fine decls good c d e).sections);
    programs = λ k d y e t.
        let s = program_scope decls (unit_names decls) d in
        kept_says s Alive (WrittenFine s of_program) (one_kept s of_program (program_same d)) d.sections y.sections t.sections
        (every_at (λ (x : ProgramDecl ℕ). Every (WrittenFine (program_scope decls (unit_names decls) x) of_program) (sections_written x.sections)) (programs_in decls) k d
        (each_program decls (λ (x : ProgramDecl ℕ). Every (WrittenFine (program_scope decls (unit_names decls) x) of_program) (sections_written x.sections)) (program_fine decls good) good) e);
  }

  pub parts_live : (t : StType) (v : Variable) → IsPart (program_of p) t v → Alive v
  parts_live = parts_say decls p checked Alive all_alive

  -- ---- regions

  abbrev pub GlobalFine : SectionSort → Bool → Item ℕ → Type 0
  GlobalFine so constant item = ItemFine unit of_globals so item × (is_global so ≡ true)

  global_here : (d : Declaration) → PlacedAt decls d → IsGlobalSort d → OfGlobal GlobalFine (λ x. Unit {0}) d
  global_here (a_global g) h i = λ first. (global_fine decls good (h.item).regions g (rules_at decls good (a_global g) h) first, i)
  global_here (a_configuration c) h i = every_one (λ (x : InstanceSpec). Unit {0}) (λ x. tt) c.instances
  global_here (an_entry t) h i = tt
  global_here (an_interface d) h i = tt
  global_here (a_class d) h i = tt
  global_here (a_function d) h i = tt
  global_here (a_program d) h i = tt

  -- each region of a global by its section's sort and its item
  pub regions_fine : Every (λ u. OfRegion GlobalFine (λ x. Unit {0}) u) (unit_regions decls)
  regions_fine =
      all_regions decls GlobalFine (λ x. Unit {0})
      (every_both (PlacedAt decls) IsGlobalSort (OfGlobal GlobalFine (λ x. Unit {0})) global_here (declarations decls) (all_at decls) (globals_are most decls formed))

  instance_kind : (o : Option ℕ) → TypeLives decls (told (option_map (λ k. type.Instance (length (classes_in decls) + k)) o))
  unfolding told
  instance_kind None = inl (holds_instances-Elementary _)
  instance_kind (Some k) = inr (subst (Lives decls) (sym (held-Instance (length (classes_in decls) + k))) (program_lives decls k))

  region_lives : (u : Region) (d : RegionDecl) → OfRegion GlobalFine (λ x. Unit {0}) u → TypedRegion decls u d → TypeLives decls d.kind
  region_lives (of_global w) d f h = subst (TypeLives decls) (sym h.kind) (global_lives decls w.sort (type_written unit w.item.kind) f.1 (f.0).living)
  region_lives (of_instance x) d f h = subst (TypeLives decls) (sym h.kind) (instance_kind _)

  regions_live : (r : ℕ) (x : seen.Region) → slice_get (program_of p).regions r ≡ Some x → TypeLives decls x.variable.kind
  regions_live r x e =
      let d = mapped_some region_of (slice_get p.regions r) x (sym (slice_get-map region_of p.regions r) ∙ e) in
      let u = if_found (TypedRegion decls) (slice_get (unit_regions decls) r) (slice_get p.regions r) d.0 d.1 (each_get (TypedRegion decls) (unit_regions decls) p.regions r checked.regions) in
      subst (λ (y : seen.Region). TypeLives decls y.variable.kind) d.2 (region_lives u.0 d.0 (every_at (λ v. OfRegion GlobalFine (λ z. Unit {0}) v) (unit_regions decls) r u.0 regions_fine u.1) u.2)

  -- a class that has an instance is not abstract
  pub living : (c : ℕ) → HasInstance (program_of p) c → (d : ClassDecl ℕ) → slice_get (classes_in decls) c ≡ Some d → is_abstract d.modifiers ≡ false
  living c h d e = sym (ap (passes_if_there (λ (x : ClassDecl ℕ). is_abstract x.modifiers)) e) ∙ instance_lives decls (program_of p) parts_live regions_live c h
