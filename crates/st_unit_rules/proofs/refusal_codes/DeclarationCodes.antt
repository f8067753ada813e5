-- Declarations break no rule of the code E17.
use Rattle.std.proofs.Common.{refl}
use Rattle.std.specs.Prelude.{ℕ, not, List, [], ◌∷◌, ◌++◌, map, flat_map, filter, Option, Some, None}
use Rattle.plc_text.specs.declared.code.Code.TheVariants.{E04, E05, E07, E14, E15, E16}
use Rattle.st_tree.specs.declared.configuration.Configuration.{Configuration}
use Rattle.st_tree.specs.declared.declaration.ClassDecl.{ClassDecl}
use Rattle.st_tree.specs.declared.declaration.FieldGroup.{FieldGroup}
use Rattle.st_tree.specs.declared.declaration.FunctionDecl.{FunctionDecl}
use Rattle.st_tree.specs.declared.declaration.InterfaceDecl.{InterfaceDecl}
use Rattle.st_tree.specs.declared.declaration.Method.{Method}
use Rattle.st_tree.specs.declared.declaration.ProgramDecl.{ProgramDecl}
use Rattle.st_tree.specs.declared.declaration.Prototype.{Prototype}
use Rattle.st_tree.specs.declared.declaration.Section.{Section}
use Rattle.st_tree.specs.declared.declaration.TypeBody.{TypeBody}
use Rattle.st_tree.specs.declared.declaration.TypeBody.TheVariants as body
use Rattle.st_tree.specs.declared.initial.Init.{Init}
use Rattle.st_tree.specs.declared.name.Used.{Used}
use Rattle.st_tree.specs.declared.statement.Stmt.{Stmt}
use Rattle.st_tree.specs.declared.type_spec.TypeSpec.{TypeSpec}
use Rattle.st_tree.specs.declared.unit.Decl.{Decl}
use Rattle.st_tree.specs.Initial.{initial_of}
use Rattle.st_tree.specs.Statement.{statements_of}
use Rattle.st_rules.specs.Classes.{classes_in, methods_in}
use Rattle.st_rules.specs.Interfaces.{interfaces_in}
use Rattle.st_rules.specs.Scope.{Scope, is_external}
use Rattle.st_unit_rules.specs.declared_names.Declarations.{Declaration, an_entry, a_global, an_interface, a_class, a_function, a_program, a_configuration, Global, Region, Placed, declarations, configuration_globals, region_of_global, is_class, is_interface, is_entry, is_first_configuration, number_among, programs_in, heading_line}
use Rattle.st_unit_rules.specs.declared_names.UnitNames.{class_scope, method_scope, function_scope, prototype_scope, program_scope}
use Rattle.st_unit_rules.specs.declared_names.Variables.{sections_written, sections_in, is_kept_written, is_body_written}
use Rattle.st_unit_rules.specs.declared_names.WrittenTypes.{type_written}
use Rattle.st_unit_rules.specs.NameRules.{part_names, section_names}
use Rattle.st_unit_rules.specs.VariableRules.{Home, of_program, of_routine, of_prototype, of_globals}
use Rattle.st_unit_rules.specs.Worth.{same_worth}
use Rattle.st_unit_rules.specs.DeclarationRules.{items_in, names, unit, signatures, result_too_deep, parameter_limits, routine_faults, method_faults, prototype_faults, field_given, group_faults, body_depth, type_body_faults, base_not_found, class_home, class_limits, class_declaration_faults, interface_declaration_faults, function_faults, program_limits, program_faults, region_faults, region_line, regions_faults, global_faults, instance_regions, configuration_faults, sort_faults, declaration_faults}
use Rattle.st_unit_rules.proofs.refusal_codes.FaultWords.{Usual, none, ◌also◌, if_broken, either, of_each}
use Rattle.st_unit_rules.proofs.refusal_codes.StatementCodes.{body_faults_usual}
use Rattle.st_unit_rules.proofs.refusal_codes.ClassCodes.{class_faults_usual, concrete_class_faults_usual, interface_faults_usual}
use Rattle.st_unit_rules.proofs.refusal_codes.TypeCodes.{type_faults_usual}
use Rattle.st_unit_rules.proofs.refusal_codes.NameCodes.{configuration_name_faults_usual, cycle_faults_usual, inner_cycles_usual, local_name_faults_usual, member_name_faults_usual, prototype_name_faults_usual, space_faults_usual, tasks_and_instances_usual, own_values_usual}
use Rattle.st_unit_rules.proofs.refusal_codes.VariableCodes.{heading_faults_usual, initial_faults_usual, item_faults_usual, result_faults_usual, sections_faults_usual}

module _ (decls : List (Decl ℕ)) where
  result_too_deep_usual : (s : Scope) (line : ℕ) (x : Option (TypeSpec ℕ)) → Usual (result_too_deep decls s line x)
  result_too_deep_usual s line None = none
  result_too_deep_usual s line (Some t) = if_broken _ E16 _ refl

  parameter_limits_usual : (s : Scope) (line : ℕ) (result : Option (TypeSpec ℕ)) (sections : List (Section ℕ)) → Usual (parameter_limits decls s line result sections)
  parameter_limits_usual s line result sections =
      if_broken _ E16 _ refl
      also of_each _ (λ x. if_broken _ E16 _ refl) (items_in (filter (λ x. not (is_external x.sort)) sections))
      also result_too_deep_usual s line result

  routine_faults_usual : (s : Scope) (home : Home) (line : ℕ) (name : List ℕ) (result : Option (TypeSpec ℕ)) (sections : List (Section ℕ)) (text : List (Stmt ℕ)) → Usual (routine_faults decls s home line name result sections text)
  routine_faults_usual s home line name result sections text =
      sections_faults_usual s home sections
      also result_faults_usual s line result
      also inner_cycles_usual (sections_written sections)
      also parameter_limits_usual s line result sections
      also if_broken _ E16 _ refl
      also body_faults_usual s (statements_of text)

  method_faults_usual : (c : ℕ) (m : Method ℕ) → Usual (method_faults decls c m)
  method_faults_usual c m =
      if_broken _ E04 _ refl
      also local_name_faults_usual m.name.text m.sections
      also routine_faults_usual (method_scope decls (names decls) c m) of_routine m.line m.name.text m.result m.sections m.body

  prototype_faults_usual : (m : Prototype ℕ) → Usual (prototype_faults decls m)
  prototype_faults_usual m =
      let s = prototype_scope decls (names decls) m in
      sections_faults_usual s of_prototype m.sections
      also result_faults_usual s m.line m.result
      also inner_cycles_usual (sections_written m.sections)
      also parameter_limits_usual s m.line m.result m.sections

  field_given_usual : (g : FieldGroup ℕ) (x : Option (Init ℕ)) → Usual (field_given decls g x)
  field_given_usual g None = none
  field_given_usual g (Some i) = initial_faults_usual (unit decls) (type_written (unit decls) g.kind) (initial_of i)

  group_faults_usual : (g : FieldGroup ℕ) → Usual (group_faults decls g)
  group_faults_usual g = type_faults_usual (unit decls) g.kind also if_broken _ E07 _ refl also field_given_usual g g.initial

  body_depth_usual : (line i n : ℕ) (b : TypeBody ℕ) → Usual (body_depth decls line i n b)
  body_depth_usual line i n (body.Alias t) = if_broken _ E16 _ refl
  body_depth_usual line i n (body.Enumeration ns) = none
  body_depth_usual line i n (body.Structure gs) = if_broken _ E16 _ refl

  type_body_faults_usual : (name : List ℕ) (b : TypeBody ℕ) → Usual (type_body_faults decls name b)
  type_body_faults_usual name (body.Alias t) = type_faults_usual (unit decls) t also own_values_usual name t
  type_body_faults_usual name (body.Enumeration ns) = none
  type_body_faults_usual name (body.Structure gs) = of_each _ group_faults_usual gs

  base_not_found_usual : (x : Option (Used ℕ)) → Usual (base_not_found decls x)
  base_not_found_usual None = none
  base_not_found_usual (Some b) = if_broken _ E05 _ refl

  class_limits_usual : (s : Scope) (i c : ℕ) (d : ClassDecl ℕ) → Usual (class_limits decls s i c d)
  class_limits_usual s i c d =
      if_broken _ E16 _ refl
      also if_broken _ E16 _ refl
      also if_broken _ E16 _ refl
      also if_broken _ E16 _ refl
      also if_broken _ E16 _ refl
      also of_each _ (λ w. if_broken _ E16 _ refl) (filter is_body_written (sections_written (sections_in d.members)))

  class_declaration_faults_usual : (i c : ℕ) (d : ClassDecl ℕ) → Usual (class_declaration_faults decls i c d)
  class_declaration_faults_usual i c d =
      let s = class_scope decls (names decls) c in
      if_broken _ E04 _ refl
      also member_name_faults_usual (classes_in decls) c d
      also base_not_found_usual d.base
      also of_each _ (λ x. if_broken _ E05 _ refl) d.interfaces
      also class_faults_usual same_worth (classes_in decls) (signatures decls) c
      also concrete_class_faults_usual (classes_in decls) (interfaces_in decls) same_worth (signatures decls) c
      also sections_faults_usual s (class_home decls d.sort) (sections_in d.members)
      also inner_cycles_usual (sections_written (sections_in d.members))
      also of_each _ (method_faults_usual c) (methods_in d.members)
      also class_limits_usual s i c d
      also body_faults_usual s (statements_of d.body)

  interface_declaration_faults_usual : (k : ℕ) (d : InterfaceDecl ℕ) → Usual (interface_declaration_faults decls k d)
  interface_declaration_faults_usual k d =
      prototype_name_faults_usual d
      also of_each _ (λ x. if_broken _ E05 _ refl) d.bases
      also interface_faults_usual (interfaces_in decls) k
      also of_each _ prototype_faults_usual d.methods
      also if_broken _ E16 _ refl
      also if_broken _ E16 _ refl

  function_faults_usual : (f : FunctionDecl ℕ) → Usual (function_faults decls f)
  function_faults_usual f =
      local_name_faults_usual f.name.text f.sections
      also routine_faults_usual (function_scope decls (names decls) f) of_routine f.line f.name.text f.result f.sections f.body

  program_limits_usual : (s : Scope) (p : ProgramDecl ℕ) → Usual (program_limits decls s p)
  program_limits_usual s p =
      let ws = sections_written p.sections in
      of_each _ (λ w. if_broken _ E16 _ refl) (filter is_kept_written ws)
      also of_each _ (λ w. if_broken _ E16 _ refl) (filter is_body_written ws)

  program_faults_usual : (p : ProgramDecl ℕ) → Usual (program_faults decls p)
  program_faults_usual p =
      let s = program_scope decls (names decls) p in
      space_faults_usual (section_names p.sections)
      also sections_faults_usual s of_program p.sections
      also inner_cycles_usual (sections_written p.sections)
      also program_limits_usual s p
      also body_faults_usual s (statements_of p.body)

  region_faults_usual : (before : List Region) (line : ℕ) (r : Region) → Usual (region_faults decls before line r)
  region_faults_usual before line r = if_broken _ E14 _ refl also if_broken _ E16 _ refl also if_broken _ E16 _ refl

  regions_faults_usual : (before x : List Region) → Usual (regions_faults decls before x)
  regions_faults_usual before [] = none
  regions_faults_usual before (r ∷ rs) = region_faults_usual before (region_line decls r) r also regions_faults_usual (before ++ r ∷ []) rs

  global_faults_usual : (before : List Region) (g : Global) → Usual (global_faults decls before g)
  global_faults_usual before g =
      heading_faults_usual (unit decls) of_globals g.section
      also (either _ (item_faults_usual (unit decls) of_globals g.section g.item also if_broken _ E16 _ refl) none)
      also regions_faults_usual before (region_of_global g.written)

  configuration_faults_usual : (x : Placed) (c : Configuration ℕ) → Usual (configuration_faults decls x c)
  configuration_faults_usual x c =
      configuration_name_faults_usual x.before c
      also if_broken _ E15 _ refl
      also tasks_and_instances_usual (map (λ p. p.name.text) (programs_in decls)) c
      also regions_faults_usual (x.regions ++ flat_map region_of_global (sections_written (configuration_globals c))) (instance_regions decls (is_first_configuration x.earlier) c)

  sort_faults_usual : (i : ℕ) (x : Placed) (x' : Declaration) → Usual (sort_faults decls i x x')
  sort_faults_usual i x (an_entry t) =
      space_faults_usual (part_names t.body)
      also type_body_faults_usual t.name.text t.body
      also body_depth_usual t.name.line i (number_among is_entry x) t.body
  sort_faults_usual i x (a_global g) = global_faults_usual x.regions g
  sort_faults_usual i x (an_interface d) = interface_declaration_faults_usual (number_among is_interface x) d
  sort_faults_usual i x (a_class d) = class_declaration_faults_usual i (number_among is_class x) d also if_broken _ E16 _ refl
  sort_faults_usual i x (a_function f) = function_faults_usual f
  sort_faults_usual i x (a_program p) = program_faults_usual p
  sort_faults_usual i x (a_configuration c) = configuration_faults_usual x c

  pub declaration_faults_usual : (i : ℕ) (x : Placed) → Usual (declaration_faults decls i x)
  unfolding declaration_faults
  declaration_faults_usual i x =
      if_broken _ E04 _ refl
      also if_broken _ E04 _ refl
      also cycle_faults_usual (declarations decls) (heading_line x.declaration) i
      also if_broken _ E16 _ refl
      also sort_faults_usual i x x.declaration
