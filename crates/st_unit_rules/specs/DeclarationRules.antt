-- The rules that each declaration of a unit breaks, all of them (IEC 61131-3:2013, 6.4 to 6.8).
use Rattle.std.specs.Prelude.{ℕ, suc, ◌-◌, pos, Bool, true, false, not, ◌&&◌, if◌then◌else◌, List, [], ◌∷◌, ◌++◌, map, flat_map, filter, length, Option, Some, None, option_map}
use Rattle.std.specs.Option.{is_none}
use Rattle.plc_text.specs.declared.code.Code.TheVariants.{E05, E16}
use Rattle.st_types.specs.declared.st_type.StType.TheVariants as type
use Rattle.st_tree.specs.declared.configuration.Configuration.{Configuration}
use Rattle.st_tree.specs.declared.configuration.InstanceSpec.{InstanceSpec}
use Rattle.st_tree.specs.declared.declaration.ClassDecl.{ClassDecl}
use Rattle.st_tree.specs.declared.declaration.ClassSort.{ClassSort}
use Rattle.st_tree.specs.declared.declaration.ClassSort.TheVariants as class_sort
use Rattle.st_tree.specs.declared.declaration.FieldGroup.{FieldGroup}
use Rattle.st_tree.specs.declared.declaration.FunctionDecl.{FunctionDecl}
use Rattle.st_tree.specs.declared.declaration.InterfaceDecl.{InterfaceDecl}
use Rattle.st_tree.specs.declared.declaration.Item.{Item}
use Rattle.st_tree.specs.declared.declaration.Method.{Method}
use Rattle.st_tree.specs.declared.declaration.ProgramDecl.{ProgramDecl}
use Rattle.st_tree.specs.declared.declaration.Prototype.{Prototype}
use Rattle.st_tree.specs.declared.declaration.Section.{Section}
use Rattle.st_tree.specs.declared.declaration.TypeBody.{TypeBody}
use Rattle.st_tree.specs.declared.declaration.TypeBody.TheVariants as body
use Rattle.st_tree.specs.declared.initial.Init.{Init}
use Rattle.st_tree.specs.declared.name.Used.{Used}
use Rattle.st_tree.specs.declared.statement.Stmt.{Stmt}
use Rattle.st_tree.specs.declared.type_spec.TypeSpec.{TypeSpec}
use Rattle.st_tree.specs.declared.unit.Decl.{Decl}
use Rattle.st_tree.specs.Initial.{initial_of}
use Rattle.st_tree.specs.Statement.{statements_of}
use Rattle.st_rules.specs.declared.names.DeclaredNames.{DeclaredNames}
use Rattle.st_rules.specs.declared.names.DeclaredVariable.{DeclaredVariable}
use Rattle.st_rules.specs.declared.signature.Signature.{Signature}
use Rattle.st_rules.specs.declared.signature.Signatures.{Signatures}
use Rattle.st_rules.specs.Calls.{block_parameters}
use Rattle.st_rules.specs.Classes.{class_named, classes_in, chain, methods_in}
use Rattle.st_rules.specs.ClassRules.{class_faults}
use Rattle.st_rules.specs.Faults.{Faults, when}
use Rattle.st_rules.specs.InterfaceRules.{interface_faults, concrete_class_faults}
use Rattle.st_rules.specs.Interfaces.{interfaces_in, interface_named}
use Rattle.st_rules.specs.Numbered.{each_numbered}
use Rattle.st_rules.specs.Scope.{Scope, is_external, is_of_body, is_of_instance, variables_of}
use Rattle.st_rules.specs.Signatures.{signature}
use Rattle.st_rules.specs.Statements.{body_faults}
use Rattle.st_unit_rules.specs.Addresses.{Bits, variable_bits, all_bits, bits_shared}
use Rattle.st_unit_rules.specs.ConfigurationRules.{second_configuration, tasks_and_instances}
use Rattle.st_unit_rules.specs.Cycles.{cycle_faults, inner_cycles, leads_to_cycle, own_values}
use Rattle.st_unit_rules.specs.declared_names.Declarations.{Declaration, an_entry, a_global, an_interface, a_class, a_function, a_program, a_configuration, Global, Region, of_global, of_instance, Placed, declarations, configuration_globals, region_of_global, is_class, is_interface, is_entry, is_configuration, is_first_configuration, number_among, entries_in, programs_in, name_of, item_line_of, item_line, heading_line}
use Rattle.st_unit_rules.specs.Initials.{initial_faults}
use Rattle.st_unit_rules.specs.Limits.{too_many_declarations, too_many_classes, too_many_regions, too_many_values, too_many_methods, too_many_parameters, too_many_locals, too_many_bases, too_many_interfaces_above, most_steps, is_too_deep, too_deep, variable_too_deep, values_of, all_values, sum_of}
use Rattle.st_unit_rules.specs.NameRules.{declared_before, name_of_conversion, space_faults, local_name_faults, member_name_faults, part_names, section_names, prototype_name_faults, configuration_name_faults, word_twice}
use Rattle.st_unit_rules.specs.declared_names.UnitNames.{unit_names, unit_scope, class_scope, method_scope, function_scope, prototype_scope, program_scope}
use Rattle.st_unit_rules.specs.VariableRules.{Home, of_class, of_block, of_program, of_routine, of_prototype, of_globals, instance_out_of_place, heading_faults, item_faults, sections_faults, result_faults}
use Rattle.st_unit_rules.specs.declared_names.Variables.{sections_written, sections_in, is_parameter_written, is_kept_written, is_body_written}
use Rattle.st_unit_rules.specs.declared_names.WrittenTypes.{type_written, type_faults}
use Rattle.st_unit_rules.specs.Worth.{Worth, a_number, worth_of, same_worth}

-- the items of sections
abbrev pub items_in : List (Section ℕ) → List (Item ℕ)
items_in ss = flat_map (λ s. s.items) ss

abbrev pub count_parameters : List (Section ℕ) → ℕ
count_parameters ss = length (filter is_parameter_written (sections_written ss))

-- what counts among the locals: no constants, no externals
abbrev pub is_local : DeclaredVariable → Bool
is_local v = not v.constant && not (is_external v.sort)

module _ (decls : List (Decl ℕ)) where
  abbrev pub names : DeclaredNames
  names = unit_names decls

  abbrev pub unit : Scope
  unit = unit_scope decls names

  -- ---- signatures, with what initial values are worth

  abbrev pub signature_in : Scope → Option (TypeSpec ℕ) → List (Section ℕ) → Signature Worth
  signature_in s result sections = signature (type_written s) (λ t i. worth_of unit (entries_in decls) s t (option_map initial_of i)) result sections

  abbrev pub class_signatures : ℕ → ClassDecl ℕ → List (Signature Worth)
  class_signatures c d = map (λ m. signature_in (method_scope decls names c m) m.result m.sections) (methods_in d.members)

  abbrev pub interface_signatures : InterfaceDecl ℕ → List (Signature Worth)
  interface_signatures d = map (λ m. signature_in (prototype_scope decls names m) m.result m.sections) d.methods

  unfoldable pub signatures : Signatures Worth
  signatures = record {
    methods = each_numbered (λ c d. class_signatures c d ∷ []) 0 (classes_in decls);
    prototypes = map interface_signatures (interfaces_in decls);
    falsehood = a_number (pos 0);
  }

  -- ---- routines: methods, methods of interfaces, functions

  abbrev pub item_too_deep : Scope → Item ℕ → Faults
  item_too_deep s item = variable_too_deep s (declarations decls) most_steps (item_line item) item.kind

  abbrev pub result_too_deep : Scope → ℕ → Option (TypeSpec ℕ) → Faults
  result_too_deep s line None = []
  result_too_deep s line (Some t) = variable_too_deep s (declarations decls) most_steps line t

  -- the limits of parameters, at the heading, but the depth of each variable at its item; externals are no locals
  abbrev pub parameter_limits : Scope → ℕ → Option (TypeSpec ℕ) → List (Section ℕ) → Faults
  parameter_limits s line result sections =
      too_many_parameters line (count_parameters sections)
      ++ flat_map (item_too_deep s) (items_in (filter (λ x. not (is_external x.sort)) sections))
      ++ result_too_deep s line result

  abbrev pub local_limits : Scope → ℕ → Faults
  local_limits s line = too_many_locals line (all_values s (filter is_local s.locals))

  -- `s` is the scope with the locals
  abbrev pub routine_faults : Scope → Home → ℕ → List ℕ → Option (TypeSpec ℕ) → List (Section ℕ) → List (Stmt ℕ) → Faults
  routine_faults s home line name result sections text =
      sections_faults s home sections
      ++ result_faults s line result
      ++ inner_cycles (sections_written sections)
      ++ parameter_limits s line result sections
      ++ local_limits s line
      ++ body_faults s (statements_of text)

  abbrev pub method_faults : ℕ → Method ℕ → Faults
  method_faults c m =
      word_twice m.line m.modifiers
      ++ local_name_faults m.name.text m.sections
      ++ routine_faults (method_scope decls names c m) of_routine m.line m.name.text m.result m.sections m.body

  abbrev pub prototype_faults : Prototype ℕ → Faults
  prototype_faults m =
      let s = prototype_scope decls names m in
      sections_faults s of_prototype m.sections
      ++ result_faults s m.line m.result
      ++ inner_cycles (sections_written m.sections)
      ++ parameter_limits s m.line m.result m.sections

  -- ---- entries of TYPE

  abbrev pub field_given : FieldGroup ℕ → Option (Init ℕ) → Faults
  field_given g None = []
  field_given g (Some i) = initial_faults unit (type_written unit g.kind) (initial_of i)

  -- a field is no instance
  abbrev pub group_faults : FieldGroup ℕ → Faults
  group_faults g = type_faults unit g.kind ++ instance_out_of_place (item_line_of g.names) false (type_written unit g.kind) ++ field_given g g.initial

  abbrev pub body_depth : ℕ → ℕ → ℕ → TypeBody ℕ → Faults
  body_depth line i n (body.Alias t) = too_deep unit (declarations decls) most_steps line t
  body_depth line i n (body.Enumeration ns) = []
  body_depth line i n (body.Structure gs) = when (is_too_deep unit (type.Structure n) && not (leads_to_cycle (declarations decls) i)) E16 line

  abbrev pub type_body_faults : List ℕ → TypeBody ℕ → Faults
  type_body_faults name (body.Alias t) = type_faults unit t ++ own_values name t
  type_body_faults name (body.Enumeration ns) = []
  type_body_faults name (body.Structure gs) = flat_map group_faults gs

  -- ---- classes and function blocks

  abbrev pub base_not_found : Option (Used ℕ) → Faults
  base_not_found None = []
  base_not_found (Some b) = when (is_none (class_named (classes_in decls) b.text)) E05 b.note

  abbrev pub interface_not_found : Used ℕ → Faults
  interface_not_found b = when (is_none (interface_named (interfaces_in decls) b.text)) E05 b.note

  abbrev pub class_home : ClassSort → Home
  class_home class_sort.Class = of_class
  class_home class_sort.FunctionBlock = of_block

  abbrev pub body_locals : Scope → ℕ → List DeclaredVariable
  body_locals s c = filter is_of_body (flat_map (variables_of s) (chain s.classes c))

  abbrev pub class_too_deep : Scope → ℕ → ℕ → ClassDecl ℕ → Faults
  class_too_deep s i c d = when (is_too_deep s (type.Instance c) && not (leads_to_cycle (declarations decls) i)) E16 d.line

  -- of its body the class has the limits at its heading, with those of its bases
  abbrev pub class_limits : Scope → ℕ → ℕ → ClassDecl ℕ → Faults
  class_limits s i c d =
      too_many_methods d.line (length (methods_in d.members))
      ++ too_many_parameters d.line (length (block_parameters s c))
      ++ too_many_locals d.line (all_values s (body_locals s c))
      ++ too_many_bases d.line (classes_in decls) c
      ++ class_too_deep s i c d
      ++ flat_map (λ w. item_too_deep s w.item) (filter is_body_written (sections_written (sections_in d.members)))

  abbrev pub class_declaration_faults : ℕ → ℕ → ClassDecl ℕ → Faults
  class_declaration_faults i c d =
      let s = class_scope decls names c in
      word_twice d.line d.modifiers
      ++ member_name_faults (classes_in decls) c d
      ++ base_not_found d.base
      ++ flat_map interface_not_found d.interfaces
      ++ class_faults same_worth (classes_in decls) signatures c
      ++ concrete_class_faults (classes_in decls) (interfaces_in decls) same_worth signatures c
      ++ sections_faults s (class_home d.sort) (sections_in d.members)
      ++ inner_cycles (sections_written (sections_in d.members))
      ++ flat_map (method_faults c) (methods_in d.members)
      ++ class_limits s i c d
      ++ body_faults s (statements_of d.body)

  -- ---- interfaces, functions and programs

  abbrev pub interface_declaration_faults : ℕ → InterfaceDecl ℕ → Faults
  interface_declaration_faults k d =
      prototype_name_faults d
      ++ flat_map interface_not_found d.bases
      ++ interface_faults (interfaces_in decls) k
      ++ flat_map prototype_faults d.methods
      ++ too_many_methods d.line (length d.methods)
      ++ too_many_interfaces_above d.line (interfaces_in decls) k

  abbrev pub function_faults : FunctionDecl ℕ → Faults
  function_faults f = local_name_faults f.name.text f.sections ++ routine_faults (function_scope decls names f) of_routine f.line f.name.text f.result f.sections f.body

  -- A program is a step of containment from what its variables hold. It is not called: parameters and locals have no limit.
  abbrev pub program_limits : Scope → ProgramDecl ℕ → Faults
  program_limits s p =
      let ws = sections_written p.sections in
      flat_map (λ w. too_deep s (declarations decls) (most_steps - 1) p.line w.item.kind) (filter is_kept_written ws)
      ++ flat_map (λ w. item_too_deep s w.item) (filter is_body_written ws)

  abbrev pub program_faults : ProgramDecl ℕ → Faults
  program_faults p =
      let s = program_scope decls names p in
      space_faults (section_names p.sections)
      ++ sections_faults s of_program p.sections
      ++ inner_cycles (sections_written p.sections)
      ++ program_limits s p
      ++ body_faults s (statements_of p.body)

  -- ---- regions

  abbrev pub program_by_name : List ℕ → List (ProgramDecl ℕ) → Option (ProgramDecl ℕ)
  program_by_name name ps = Rattle.st_rules.specs.Scope.first_named (λ p. p.name.text) name ps

  abbrev pub program_of : InstanceSpec → Option (ProgramDecl ℕ)
  program_of x = program_by_name x.program.text (programs_in decls)

  -- a program instance is one value more than its variables
  abbrev pub program_values : Option (ProgramDecl ℕ) → ℕ
  program_values None = 0
  program_values (Some p) = let s = program_scope decls names p in suc (sum_of s (map (λ v. values_of s v.kind) (filter is_of_instance s.locals)))

  abbrev pub program_bits : Option (ProgramDecl ℕ) → List Bits
  program_bits None = []
  program_bits (Some p) = all_bits (sections_written p.sections)

  abbrev pub region_values : Region → ℕ
  region_values (of_global w) = values_of unit (type_written unit w.item.kind)
  region_values (of_instance x) = program_values (program_of x)

  abbrev pub region_bits : Region → List Bits
  region_bits (of_global w) = variable_bits w
  region_bits (of_instance x) = program_bits (program_of x)

  -- the rules of a region among those before it, at the line of the global's name or of PROGRAM
  abbrev pub region_faults : List Region → ℕ → Region → Faults
  region_faults before line r =
      bits_shared line (flat_map region_bits before) (region_bits r)
      ++ too_many_regions line (length before)
      ++ too_many_values line (sum_of unit (map region_values before)) (region_values r)

  abbrev pub region_line : Region → ℕ
  region_line (of_global w) = w.name.line
  region_line (of_instance x) = x.line

  abbrev pub regions_faults : List Region → List Region → Faults
  regions_faults before [] = []
  regions_faults before (r ∷ rs) = region_faults before (region_line r) r ++ regions_faults (before ++ r ∷ []) rs

  -- ---- globals and configurations

  -- what the names of an item share counts for the first of them, what its section has for each
  abbrev pub global_faults : List Region → Global → Faults
  global_faults before g =
      heading_faults unit of_globals g.section
      ++ (if g.first then item_faults unit of_globals g.section g.item ++ item_too_deep unit g.item else [])
      ++ regions_faults before (region_of_global g.written)

  -- the instances come behind the globals of the configuration
  abbrev pub instance_regions : Bool → Configuration ℕ → List Region
  instance_regions true c = map of_instance c.instances
  instance_regions false c = []

  abbrev pub configuration_faults : Placed → Configuration ℕ → Faults
  configuration_faults x c =
      configuration_name_faults x.before c
      ++ second_configuration c.line (number_among is_configuration x)
      ++ tasks_and_instances (map (λ p. p.name.text) (programs_in decls)) c
      ++ regions_faults (x.regions ++ flat_map region_of_global (sections_written (configuration_globals c))) (instance_regions (is_first_configuration x.earlier) c)

  -- ---- all rules of a declaration

  abbrev pub sort_faults : ℕ → Placed → Declaration → Faults
  sort_faults i x (an_entry t) = space_faults (part_names t.body) ++ type_body_faults t.name.text t.body ++ body_depth t.name.line i (number_among is_entry x) t.body
  sort_faults i x (a_global g) = global_faults x.regions g
  sort_faults i x (an_interface d) = interface_declaration_faults (number_among is_interface x) d
  sort_faults i x (a_class d) = class_declaration_faults i (number_among is_class x) d ++ too_many_classes d.line (number_among is_class x)
  sort_faults i x (a_function f) = function_faults f
  sort_faults i x (a_program p) = program_faults p
  sort_faults i x (a_configuration c) = configuration_faults x c

  -- the rules that the declaration breaks which stands at this place among all
  unfoldable pub declaration_faults : ℕ → Placed → Faults
  declaration_faults i x =
      declared_before x.before (name_of x.declaration)
      ++ name_of_conversion (name_of x.declaration)
      ++ cycle_faults (declarations decls) (heading_line x.declaration) i
      ++ too_many_declarations (heading_line x.declaration) (length x.earlier)
      ++ sort_faults i x x.declaration
