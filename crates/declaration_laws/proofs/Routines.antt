-- What methods and functions declare is right: their locals, and their parameters, which are locals.
use Rattle.std.proofs.Common.{◌≡◌, ℕ, ◌+◌, Bool, true, false, List, [], ◌++◌, length, Option, Some, None, refl, sym, ap, ◌∙◌, subst}
use Rattle.std.specs.Prelude.{not, flat_map, filter, slice_get}
use Rattle.st_types.specs.declared.st_type.StType.{StType}
use Rattle.st_types.specs.declared.st_type.StType.TheVariants as type
use Rattle.st_tree.specs.declared.declaration.ClassDecl.{ClassDecl}
use Rattle.st_tree.specs.declared.declaration.FunctionDecl.{FunctionDecl}
use Rattle.st_tree.specs.declared.declaration.Method.{Method}
use Rattle.st_tree.specs.declared.declaration.Section.{Section}
use Rattle.st_tree.specs.declared.program.Note.{Note}
use Rattle.st_tree.specs.declared.program.Program.{Program as Checked}
use Rattle.st_tree.specs.declared.statement.Stmt.{Stmt}
use Rattle.st_tree.specs.declared.type_spec.TypeSpec.{TypeSpec}
use Rattle.st_tree.specs.declared.unit.Decl.{Decl}
use Rattle.st_tree.specs.Statement.{Statements}
use Rattle.st_rules.specs.declared.names.DeclaredVariable.{DeclaredVariable}
use Rattle.st_rules.specs.Classes.{classes_in, methods_in}
use Rattle.st_rules.specs.Scope.{Scope, is_external}
use Rattle.st_rules.proofs.Booleans.{some-same, true≢false}
use Rattle.st_unit_rules.specs.Checked.{Each as EachPair, IfThere, TypedSpec, TypedSection, TypedMethod, TypedFunction, IsChecked}
use Rattle.st_unit_rules.specs.Cycles.{inner_cycles}
use Rattle.st_unit_rules.specs.declared_names.Declarations.{a_function}
use Rattle.st_unit_rules.specs.declared_names.UnitNames.{unit_names, method_scope, function_scope}
use Rattle.st_unit_rules.specs.declared_names.Variables.{sections_written}
use Rattle.st_unit_rules.specs.DeclarationRules.{items_in, item_too_deep, result_too_deep, count_parameters, parameter_limits, local_limits, routine_faults}
use Rattle.st_unit_rules.specs.Limits.{too_many_parameters}
use Rattle.st_unit_rules.specs.NameRules.{local_name_faults, word_twice}
use Rattle.st_unit_rules.specs.UnitRefusal.{BreaksNothing}
use Rattle.st_unit_rules.specs.VariableRules.{of_routine, sections_faults, result_faults}
use Rattle.st_rules.specs.Statements.{body_faults}
use Rattle.st_tree.specs.Statement.{statements_of}
use Rattle.st_values.specs.Program.{Variable, Parameter, Program, class_at, class_variables}
use Rattle.st_values.specs.Shape as shape
use Rattle.st_values.specs.Shape.{Shape, fields_by, shape_of, shape_by, shape_within, has_instance}
use Rattle.st_values.specs.Value.{◌>>=◌}
use Rattle.st_values.specs.View.{those, negated, is_parameter, variables_in, result_of, routine_of, method_of, function_of, local_parameters, program_of}
use Rattle.st_values.proofs.ValueLaws.{then_some}
use Rattle.st_meaning.specs.Call.{is_in_out}
use Rattle.st_meaning.specs.st_frame.Promise.Declarations.{Each, LocalIs, ParameterIs}
use Rattle.st_meaning.specs.st_frame.Promise.Types.{IsNoInstance}
use Rattle.resolution_order.specs.told_laws.ToldLaws.{Every}
use Rattle.accepted_texts.specs.formed_units.Formed as formed
use Rattle.accepted_texts.specs.formed_units.Formed.{FormedVars, IsFormed}
use Rattle.accepted_texts.specs.told_units.Told.{WrittenIn, in_method, in_function}
use Rattle.accepted_texts.proofs.formed_texts.Units.{method_at, part_at}
use Rattle.accepted_texts.proofs.told_units.Law.{method-rules, function-rules}
use Rattle.accepted_texts.proofs.unfolding_laws.CycleLaws.{none_in}
use Rattle.accepted_texts.proofs.unfolding_laws.ListLaws.{every_at, every_from, front_get, back_get}
use Rattle.class_laws.proofs.Parameters.{local_at}
use Rattle.initial_laws.proofs.Items.{sections_local}
use Rattle.initial_laws.proofs.Knowing.{inside, all_told, knows, sections_say}
use Rattle.declaration_laws.proofs.Locals.{variables_are, result_is, in_order}
use Rattle.initial_laws.proofs.Places.{PlacedAt}
use Rattle.declaration_laws.proofs.Regions.{each_every}
use Rattle.constant_laws.proofs.Steps.{entry_values, written_sound}

-- ---- what the rules say of a routine

record RoutineFine (decls : List (Decl ℕ)) (s : Scope) (line : ℕ) (result : Option (TypeSpec ℕ)) (ss : List (Section ℕ)) : Type 0 where
  sections : sections_faults s of_routine ss ≡ []
  outcome : result_faults s line result ≡ []
  items : flat_map (item_too_deep decls s) (items_in (filter (λ x. not (is_external x.sort)) ss)) ≡ []
  deep : result_too_deep decls s line result ≡ []

routine_fine : (decls : List (Decl ℕ)) (s : Scope) (line : ℕ) (name : List ℕ) (result : Option (TypeSpec ℕ)) (ss : List (Section ℕ)) (text : List (Stmt ℕ)) → routine_faults decls s of_routine line name result ss text ≡ [] → RoutineFine decls s line result ss
routine_fine decls s line name result ss text f =
    let but_body = none_in _ (body_faults s (statements_of text)) f in
    let but_locals = none_in _ (local_limits decls s line) but_body.0 in
    let but_limits = none_in _ (parameter_limits decls s line result ss) but_locals.0 in
    let but_cycles = none_in _ (inner_cycles (sections_written ss)) but_limits.0 in
    let both_parts = none_in (sections_faults s of_routine ss) (result_faults s line result) but_cycles.0 in
    let but_result = none_in _ (result_too_deep decls s line result) but_limits.1 in
    let items = none_in (too_many_parameters line (count_parameters ss)) (flat_map (item_too_deep decls s) (items_in (filter (λ x. not (is_external x.sort)) ss))) but_result.0 in
    record { sections = both_parts.0; outcome = both_parts.1; items = items.1; deep = but_result.1 }

module _ (most : ℕ) (decls : List (Decl ℕ)) (p : Checked) (fine : IsFormed most decls) (good : BreaksNothing decls) (checked : IsChecked decls p) where
  abbrev Seen : Program
  Seen = program_of p

  abbrev places : List Variable → List Variable → List Variable
  places first vs = first ++ (those is_parameter vs ++ those (negated is_parameter) vs)

  module _ (c : Option ℕ) (m : Bool) (ls : List DeclaredVariable) where
    routine_locals : (line : ℕ) (name : List ℕ) (o : Option (TypeSpec ℕ)) (q : Option (TypeSpec Note)) (xs : List (Section ℕ)) (ys : List (Section Note)) → WrittenIn decls (inside most decls p fine good checked c m ls) o xs → formed.Every FormedVars xs
        → RoutineFine decls (inside most decls p fine good checked c m ls) line o xs → IfThere (TypedSpec (inside most decls p fine good checked c m ls)) o q → EachPair (TypedSection (inside most decls p fine good checked c m ls)) xs ys
        → Every (LocalIs Seen) (places (result_of name q) (variables_in ys))
    routine_locals line name o q xs ys w n f t ts =
        let s = inside most decls p fine good checked c m ls in
        let k = knows most decls p fine good checked c m ls (written_sound Seen decls (entry_values decls p checked) s o xs w) ((all_told most decls p fine good checked).scopes s o xs w) in
        let outcome = λ (x : TypeSpec ℕ) (e : o ≡ Some x). (all_told most decls p fine good checked).outcomes s x xs (subst (λ z. WrittenIn decls s z xs) e w) in
        in_order most decls p fine good checked (result_of name q) (variables_in ys)
        (result_is most decls p fine good checked c m ls name line o q t outcome f.outcome f.deep)
        (variables_are most decls p fine good checked c m ls k xs ys ts (sections_say most decls p fine good checked s o xs w of_routine f.sections n) (sections_local xs n) f.items)

  -- the locals of a method
  pub method_locals : (c : ℕ) (d : ClassDecl ℕ) (k : ℕ) (x : Method ℕ) (y : Method Note) → slice_get (classes_in decls) c ≡ Some d → slice_get (methods_in d.members) k ≡ Some x → TypedMethod decls c x y → Every (LocalIs Seen) (method_of c y).locals
  unfolding method_scope
  method_locals c d k x y e f t =
      let rules = method-rules decls good c d k x e f in
      let own = none_in (word_twice x.line x.modifiers ++ local_name_faults x.name.text x.sections) (routine_faults decls (method_scope decls (unit_names decls) c x) of_routine x.line x.name.text x.result x.sections x.body) rules in
      routine_locals (Some c) true _ x.line y.name.text x.result y.result x.sections y.sections (in_method c d k x e f) (method_at most decls fine c d k x e f).sections
      (routine_fine decls (method_scope decls (unit_names decls) c x) x.line x.name.text x.result x.sections x.body own.1) t.result t.sections

  -- the locals of a function
  pub function_locals : (x : FunctionDecl ℕ) (y : FunctionDecl Note) → PlacedAt decls (a_function x) → TypedFunction decls x y → Every (LocalIs Seen) (function_of y).locals
  unfolding function_scope
  function_locals x y h t =
      let rules = function-rules decls good h.place h.item x h.there h.is in
      let own = none_in (local_name_faults x.name.text x.sections) (routine_faults decls (function_scope decls (unit_names decls) x) of_routine x.line x.name.text x.result x.sections x.body) rules in
      routine_locals None false _ x.line y.name.text x.result y.result x.sections y.sections (in_function h.place h.item x h.there h.is) (part_at most decls fine h.place h.item (a_function x) h.there h.is).sections
      (routine_fine decls (function_scope decls (unit_names decls) x) x.line x.name.text x.result x.sections x.body own.1) t.result t.sections

-- ---- parameters

module _ (p : Program) where
  -- what has a shape without an instance is none
  pub no_instance : (t : StType) (sh : Shape) → shape_of p t ≡ Some sh → has_instance sh ≡ false → IsNoInstance t
  no_instance (type.Instance c) sh e h =
      let q = sym (ap (shape_by p (shape_within p 64)) (type.outs-Instance c)) ∙ e in
      let a = then_some (class_at p c) (λ k. fields_by (shape_within p 64) (class_variables p c) >>= λ fields. Some (shape.Instance c k.name fields)) sh q in
      let b = then_some (fields_by (shape_within p 64) (class_variables p c)) (λ fields. Some (shape.Instance c (a.0).name fields)) sh a.2 in
      absurd (true≢false (ap has_instance (some-same b.2) ∙ h))
  no_instance _ sh e h = tt

  pub local_no_instance : (v : Variable) → LocalIs p v → is_in_out v.sort ≡ false → IsNoInstance v.kind
  local_no_instance v h e = let x = h e in no_instance v.kind x.0 x.1 x.3

  -- the parameters of a method or a function are its locals
  pub parameters_are : (c : Option ℕ) (name : List ℕ) (line : ℕ) (o : Option (TypeSpec Note)) (vs : List Variable) (body : Statements Note) → Every (LocalIs p) (routine_of c name line o vs body).locals
      → Each (ParameterIs p (routine_of c name line o vs body)) (routine_of c name line o vs body).parameters
  parameters_are c name line o vs body h =
      let r = routine_of c name line o vs body in
      each_every (ParameterIs p r) r.parameters (every_from (ParameterIs p r) r.parameters one)
    where
      one : (i : ℕ) (q : Parameter) → slice_get (local_parameters (length (result_of name o)) (those is_parameter vs)) i ≡ Some q → ParameterIs p (routine_of c name line o vs body) q
      one i q e =
          let x = local_at (length (result_of name o)) (those is_parameter vs) i q e in
          let first = result_of name o in
          let there : slice_get (first ++ (those is_parameter vs ++ those (negated is_parameter) vs)) (length first + i) ≡ Some x.0 =
          back_get first (those is_parameter vs ++ those (negated is_parameter) vs) i (length first) refl ∙ front_get (those is_parameter vs) (those (negated is_parameter) vs) i x.0 x.1 in
          let local : LocalIs p x.0 = every_at (LocalIs p) (first ++ (those is_parameter vs ++ those (negated is_parameter) vs)) (length first + i) x.0 h there in
          subst (ParameterIs p (routine_of c name line o vs body)) (sym x.2) (x.0, there, refl, (λ z. tt), (λ z. local_no_instance x.0 local z))
