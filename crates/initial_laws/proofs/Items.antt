-- What the rules say of each variable that sections declare, and of a class part by part.
use Rattle.std.proofs.Common.{◌≡◌, ℕ, true, false, List, [], ◌++◌, Option, Some, None, refl, sym, ap, ◌∙◌}
use Rattle.std.specs.Prelude.{not, ◌&&◌, flat_map, option_map, option_and_then, filter, slice_get, if◌then◌else◌}
use Rattle.plc_text.specs.declared.code.Code.TheVariants.{E06, E07, E11}
use Rattle.st_tree.specs.declared.declaration.ClassDecl.{ClassDecl}
use Rattle.st_tree.specs.declared.declaration.Item.{Item}
use Rattle.st_tree.specs.declared.declaration.ProgramDecl.{ProgramDecl}
use Rattle.st_tree.specs.declared.declaration.Section.{Section}
use Rattle.st_tree.specs.declared.declaration.SectionSort.{SectionSort}
use Rattle.st_tree.specs.declared.name.Used.{Used}
use Rattle.st_tree.specs.declared.unit.Decl.{Decl}
use Rattle.st_tree.specs.Declarations.{is_global}
use Rattle.st_tree.specs.Initial.{initial_of}
use Rattle.st_rules.specs.Chains.{is_among}
use Rattle.st_rules.specs.Classes.{class_named, classes_in, methods_in, base_of, chain}
use Rattle.st_rules.specs.ClassRules.{class_faults, class_faults_of, base_faults, lies_on_cycle, cycle_of_bases}
use Rattle.st_rules.specs.InterfaceRules.{concrete_class_faults}
use Rattle.st_rules.specs.Interfaces.{interfaces_in}
use Rattle.st_rules.specs.Numbered.{passes_if_there}
use Rattle.st_rules.specs.Scope.{Scope, is_external}
use Rattle.st_unit_rules.specs.Checked.{IsChecked}
use Rattle.st_unit_rules.specs.declared_names.Declarations.{Region, Global, item_line}
use Rattle.st_unit_rules.specs.declared_names.UnitNames.{unit_names, unit_scope, class_scope, program_scope}
use Rattle.st_unit_rules.specs.declared_names.Variables.{Written, declares_constants, is_body_written, item_written, section_written, sections_written, sections_in}
use Rattle.st_unit_rules.specs.declared_names.WrittenTypes.{type_written, type_faults}
use Rattle.st_unit_rules.specs.DeclarationRules.{signatures, class_home, class_limits, method_faults, program_faults, program_limits, global_faults, item_too_deep}
use Rattle.st_unit_rules.specs.NameRules.{member_name_faults}
use Rattle.st_unit_rules.specs.Cycles.{inner_cycles}
use Rattle.st_unit_rules.specs.UnitRefusal.{BreaksNothing}
use Rattle.st_unit_rules.specs.VariableRules.{Home, of_globals, of_program, may_hold_instances, may_have_address, holds_instances_told, instance_out_of_place, class_held, makes_instances, is_abstract_class, instance_of_abstract_class, bad_constant, address_faults, external_faults, initial_if_given, item_faults, section_faults, heading_faults, sections_faults}
use Rattle.st_unit_rules.specs.Worth.{same_worth}
use Rattle.st_tree.specs.declared.program.Program.{Program as Checked}
use Rattle.resolution_order.specs.told_laws.ToldLaws.{Every}
use Rattle.accepted_texts.specs.formed_units.Formed as formed
use Rattle.accepted_texts.specs.formed_units.Formed.{FormedItem, FormedVars}
use Rattle.accepted_texts.proofs.formed_texts.Units.{over}
use Rattle.accepted_texts.proofs.told_units.Whole as whole
use Rattle.accepted_texts.proofs.unfolding_laws.ChainLaws.{base_same, chain_same}
use Rattle.accepted_texts.proofs.unfolding_laws.CycleLaws.{none_in, none_of_each, not_when}
use Rattle.accepted_texts.proofs.unfolding_laws.ListLaws.{every_one, every_means, every_mapped, every_joined}

-- ---- variables

module _ (s : Scope) (h : Home) where
  -- its type breaks no rule, holds no instance where none may be, and none of an abstract class; and what is given breaks none
  pub record ItemFine (so : SectionSort) (item : Item ℕ) : Type 0 where
    pub kind : type_faults s item.kind ≡ []
    pub instances : (not (may_hold_instances h so) && holds_instances_told (type_written s item.kind)) ≡ false
    pub living : (makes_instances so && is_abstract_class s.classes (option_and_then class_held (type_written s item.kind))) ≡ false
    pub initial : initial_if_given s (type_written s item.kind) (option_map initial_of item.initial) ≡ []

  abbrev pub WrittenFine : Written → Type 0
  WrittenFine w = ItemFine w.sort w.item

  pub item_fine : (x : Section ℕ) (item : Item ℕ) → item_faults s h x item ≡ [] → ItemFine x.sort item
  unfolding item_faults
  item_fine x item f =
      let line = item_line item in
      let t = type_written s item.kind in
      let i = option_map initial_of item.initial in
      let a = none_in _ (initial_if_given s t i) f in
      let b = none_in _ (if is_external x.sort then external_faults s item else []) a.0 in
      let c = none_in _ (address_faults line (may_have_address h x.sort && not (declares_constants x)) t item.address) b.0 in
      let d = none_in _ (if declares_constants x then bad_constant line t i else []) c.0 in
      let e = none_in _ (instance_of_abstract_class line s.classes x.sort t) d.0 in
      let g = none_in (type_faults s item.kind) (instance_out_of_place line (may_hold_instances h x.sort) t) e.0 in
      record {
        kind = g.0;
        instances = not_when (not (may_hold_instances h x.sort) && holds_instances_told t) E07 line g.1;
        living = not_when (makes_instances x.sort && is_abstract_class s.classes (option_and_then class_held t)) E11 line e.1;
        initial = a.1;
      }

  section_fine : (x : Section ℕ) → section_faults s h x ≡ [] → Every WrittenFine (section_written x)
  section_fine x f =
      every_joined WrittenFine (item_written x) x.items
      (every_means (λ item. item_faults s h x item ≡ []) (λ item. Every WrittenFine (item_written x item))
      (λ item e. every_mapped WrittenFine _ item.names (every_one _ (λ n. item_fine x item e) item.names)) x.items
      (none_of_each (item_faults s h x) x.items (none_in (heading_faults s h x) (flat_map (item_faults s h x) x.items) f).1))

  pub sections_fine : (ss : List (Section ℕ)) → sections_faults s h ss ≡ [] → Every WrittenFine (sections_written ss)
  unfolding sections_faults
  sections_fine ss f =
      every_joined WrittenFine section_written ss
      (every_means (λ x. section_faults s h x ≡ []) (λ x. Every WrittenFine (section_written x)) section_fine ss (none_of_each (section_faults s h) ss f))

-- each variable of formed sections is formed
abbrev pub WrittenFormed : Written → Type 0
WrittenFormed w = FormedItem w.item

pub sections_formed : (ss : List (Section ℕ)) → formed.Every FormedVars ss → Every WrittenFormed (sections_written ss)
sections_formed ss h =
    every_joined WrittenFormed section_written ss
    (over FormedVars (λ x. Every WrittenFormed (section_written x))
    (λ x k. every_joined WrittenFormed (item_written x) x.items
    (over FormedItem (λ item. Every WrittenFormed (item_written x item)) (λ item j. every_mapped WrittenFormed _ item.names (every_one _ (λ n. j) item.names)) x.items k.section.items)) ss h)

-- and none is a global
abbrev pub IsLocalSort : Written → Type 0
IsLocalSort w = is_global w.sort ≡ false

pub sections_local : (ss : List (Section ℕ)) → formed.Every FormedVars ss → Every IsLocalSort (sections_written ss)
sections_local ss h =
    every_joined IsLocalSort section_written ss
    (over FormedVars (λ x. Every IsLocalSort (section_written x))
    (λ x k. every_joined IsLocalSort (item_written x) x.items (every_one (λ item. Every IsLocalSort (item_written x item)) (λ item. every_mapped IsLocalSort _ item.names (every_one _ (λ n. k.local) item.names)) x.items)) ss h)

-- ---- classes, programs and globals

module _ (decls : List (Decl ℕ)) (good : BreaksNothing decls) where
  -- what the rules of a class say, part by part
  pub record ClassFine (c : ℕ) (d : ClassDecl ℕ) : Type 0 where
    pub names : member_name_faults (classes_in decls) c d ≡ []
    pub class : class_faults same_worth (classes_in decls) (signatures decls) c ≡ []
    pub interfaces : concrete_class_faults (classes_in decls) (interfaces_in decls) same_worth (signatures decls) c ≡ []
    pub sections : sections_faults (class_scope decls (unit_names decls) c) (class_home decls d.sort) (sections_in d.members) ≡ []
    pub depths : flat_map (λ (w : Written). item_too_deep decls (class_scope decls (unit_names decls) c) w.item) (filter is_body_written (sections_written (sections_in d.members))) ≡ []

  pub class_fine : (c : ℕ) (d : ClassDecl ℕ) → slice_get (classes_in decls) c ≡ Some d → ClassFine c d
  class_fine c d e =
      let r = whole.class-rules decls good c d e in
      let s = class_scope decls (unit_names decls) c in
      let bodies = none_in _ _ r.1 in
      let limits = none_in _ (class_limits decls s r.0 c d) bodies.0 in
      let depths = none_in _ (flat_map (λ (w : Written). item_too_deep decls s w.item) (filter is_body_written (sections_written (sections_in d.members)))) limits.1 in
      let methods = none_in _ (flat_map (method_faults decls c) (methods_in d.members)) limits.0 in
      let cycles = none_in _ (inner_cycles (sections_written (sections_in d.members))) methods.0 in
      let sections = none_in _ (sections_faults s (class_home decls d.sort) (sections_in d.members)) cycles.0 in
      let concrete = none_in _ (concrete_class_faults (classes_in decls) (interfaces_in decls) same_worth (signatures decls) c) sections.0 in
      let class = none_in _ (class_faults same_worth (classes_in decls) (signatures decls) c) concrete.0 in
      let implemented = none_in _ _ class.0 in
      let base = none_in _ _ implemented.0 in
      let names = none_in _ (member_name_faults (classes_in decls) c d) base.0 in
      record { names = names.1; class = class.1; interfaces = concrete.1; sections = sections.1; depths = depths.1 }

  pub program_fine : (d : ProgramDecl ℕ) → program_faults decls d ≡ [] → Every (WrittenFine (program_scope decls (unit_names decls) d) of_program) (sections_written d.sections)
  program_fine d h =
      let s = program_scope decls (unit_names decls) d in
      let but_body = none_in _ _ h in
      let but_limits = none_in _ (program_limits decls s d) but_body.0 in
      let but_cycles = none_in _ (inner_cycles (sections_written d.sections)) but_limits.0 in
      let sections = none_in _ (sections_faults s of_program d.sections) but_cycles.0 in
      sections_fine s of_program d.sections sections.1

  -- the first global of an item
  pub global_fine : (before : List Region) (g : Global) → global_faults decls before g ≡ [] → g.first ≡ true → ItemFine (unit_scope decls (unit_names decls)) of_globals g.section.sort g.item
  global_fine before g h q =
      let unit = unit_scope decls (unit_names decls) in
      let front = none_in _ _ h in
      let own = none_in _ _ front.0 in
      let first : item_faults unit of_globals g.section g.item ++ item_too_deep decls unit g.item ≡ [] = sym (ap (λ b. if b then item_faults unit of_globals g.section g.item ++ item_too_deep decls unit g.item else []) q) ∙ own.1 in
      item_fine unit of_globals g.section g.item (none_in (item_faults unit of_globals g.section g.item) (item_too_deep decls unit g.item) first).0

  -- ---- no class is its own base

  pub on_no_cycle : (c : ℕ) → lies_on_cycle (classes_in decls) c ≡ false
  on_no_cycle c = by (slice_get (classes_in decls) c) refl
    where
      by : (o : Option (ClassDecl ℕ)) → slice_get (classes_in decls) c ≡ o → lies_on_cycle (classes_in decls) c ≡ false
      by None e = ap (λ o. passes_if_there (λ b. is_among c (chain (classes_in decls) b)) (option_and_then (λ (d : ClassDecl ℕ). option_and_then (λ (u : Used ℕ). class_named (classes_in decls) u.text) d.base) o)) e
      by (Some d) e =
          let fs = sym (ap (class_faults_of same_worth (classes_in decls) (signatures decls) c) e) ∙ (class_fine c d e).class in
          let own = none_in (base_faults same_worth (classes_in decls) (signatures decls) c d) _ fs in
          let base = option_and_then (slice_get (classes_in decls)) (base_of (classes_in decls) c) in
          let blocks = none_in _ _ own.0 in
          let extends = none_in _ _ blocks.0 in
          let final = none_in (cycle_of_bases d (lies_on_cycle (classes_in decls) c)) _ extends.0 in
          not_when (lies_on_cycle (classes_in decls) c) E06 d.line final.0

  pub no_cycle : (p : Checked) → IsChecked decls p → (c : ℕ) → lies_on_cycle p.classes c ≡ false
  no_cycle p checked c =
      ap (passes_if_there (λ b. is_among c (chain p.classes b))) (base_same decls (classes_in decls) p.classes checked.classes c)
      ∙ by (base_of (classes_in decls) c) refl
    where
      by : (o : Option ℕ) → base_of (classes_in decls) c ≡ o → passes_if_there (λ b. is_among c (chain p.classes b)) o ≡ false
      by None e = refl
      by (Some b) e =
          ap (is_among c) (chain_same decls (classes_in decls) p.classes checked.classes b)
          ∙ (sym (ap (passes_if_there (λ k. is_among c (chain (classes_in decls) k))) e) ∙ on_no_cycle c)
