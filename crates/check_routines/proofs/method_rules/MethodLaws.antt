-- Methods from their parts, and in the scopes with their locals.
use Rattle.std.proofs.Common.{◌≡◌, ℕ, true, false, List, [], ◌++◌, Option, Some, None, refl, sym, ap, ◌∙◌, subst}
use Rattle.plc_text.specs.declared.code.Code.{Code}
use Rattle.st_tree.specs.declared.declaration.Method.{Method}
use Rattle.st_tree.specs.declared.declaration.Modifier.{Modifier}
use Rattle.st_tree.specs.declared.declaration.Prototype.{Prototype}
use Rattle.st_tree.specs.declared.declaration.Section.{Section}
use Rattle.st_tree.specs.declared.name.Name.{Name}
use Rattle.st_tree.specs.declared.program.Note.{Note}
use Rattle.st_tree.specs.declared.statement.Stmt.{Stmt}
use Rattle.st_tree.specs.declared.type_spec.TypeSpec.{TypeSpec}
use Rattle.st_tree.specs.declared.unit.Decl.{Decl}
use Rattle.st_rules.specs.declared.names.DeclaredVariable.{DeclaredVariable}
use Rattle.st_rules.specs.Faults.{least, earlier}
use Rattle.st_rules.specs.Scope.{Scope}
use Rattle.st_unit_rules.specs.declared_names.UnitNames.{unit_names, unit_scope, outer_scope, locals_of, method_scope, prototype_scope}
use Rattle.st_unit_rules.specs.Checked.{Each, IfThere, TypedBody, TypedSection, TypedSpec}
use Rattle.st_unit_rules.specs.DeclarationRules.{routine_faults}
use Rattle.st_unit_rules.specs.NameRules.{local_name_faults, word_twice}
use Rattle.st_unit_rules.specs.VariableRules.{of_routine, of_prototype}
use Rattle.check_initial_values.proofs.Parts.{joined}
use Rattle.check_routines.specs.declared.routine_rules.routines.CheckedRoutine.{CheckedRoutine}
use Rattle.check_routines.specs.declared.routine_rules.variables.CheckedVariables.{CheckedVariables}
use Rattle.check_routines.specs.routine_rules.Routines.{ChecksRoutine}
use Rattle.check_routines.specs.routine_rules.Variables.{ChecksVariables}
use Rattle.symbol_table.specs.unit_tables.Scopes.{scope_in}
pub use Rattle.check_routines.proofs.function_rules.FunctionLaws.{none_behind}
use Rattle.check_routines.specs.declared.method_rules.methods.CheckedMethod.{CheckedMethod}
use Rattle.check_routines.specs.declared.method_rules.prototypes.CheckedPrototype.{CheckedPrototype}
use Rattle.check_routines.specs.method_rules.Methods.{ChecksMethod}
use Rattle.check_routines.specs.method_rules.Prototypes.{ChecksPrototype}
use Rattle.check_routines.specs.method_rules.Private.Methods.{IsMethod, MethodIn}
use Rattle.check_routines.specs.method_rules.Private.Prototypes.{IsPrototype, PrototypeIn}

-- ---- methods of classes

pub method_in : (c : CheckedMethod) (decls : List (Decl ℕ)) (s : Scope) (m : Method ℕ) (given written : List Modifier) (own : Name) (twice names words : Option (Code × ℕ)) (found : CheckedRoutine) (xs : List (Section ℕ)) (ys : List (Stmt ℕ))
    → given ≡ m.modifiers → xs ≡ m.sections → ys ≡ m.body → twice ≡ least (word_twice m.line given) → names ≡ least (local_name_faults m.name.text xs) → written ≡ given → own ≡ m.name → ChecksRoutine found decls s of_routine m.line m.result xs ys
    → words ≡ earlier twice names → IsMethod c m.line written own words found → MethodIn c decls s m
method_in c decls s m given written own twice names words found xs ys g a b t n x o q e w =
    let r : ChecksRoutine found decls s of_routine m.line m.result m.sections m.body =
    subst (λ (zs : List (Stmt ℕ)). ChecksRoutine found decls s of_routine m.line m.result m.sections zs) b (subst (λ (zs : List (Section ℕ)). ChecksRoutine found decls s of_routine m.line m.result zs ys) a q) in
    record {
      least =
          joined c.least words found.least (word_twice m.line m.modifiers ++ local_name_faults m.name.text m.sections) (routine_faults decls s of_routine m.line m.name.text m.result m.sections m.body) w.least
          (joined words twice names (word_twice m.line m.modifiers) (local_name_faults m.name.text m.sections) e (t ∙ ap (λ ms. least (word_twice m.line ms)) g) (n ∙ ap (λ zs. least (local_name_faults m.name.text zs)) a))
          (r.least m.name.text);
      line = w.line;
      modifiers = w.modifiers ∙ x ∙ g;
      name = w.name ∙ o;
      result = subst (λ (u : Option (TypeSpec Note)). IfThere (TypedSpec s) m.result u) (sym w.result) r.result;
      sections = subst (λ (zs : List (Section Note)). Each (TypedSection s) m.sections zs) (sym w.sections) r.trees;
      body = λ h. subst (λ (zs : List (Stmt Note)). TypedBody s m.body zs) (sym w.body) (r.body (none_behind words found.least (sym w.least ∙ h)));
    }

-- the scope that is said of a method
method_scope_is : (decls : List (Decl ℕ)) (class : ℕ) (m : Method ℕ) → scope_in decls (Some class) true (locals_of (scope_in decls (Some class) true []) m.name.text m.result m.sections) ≡ method_scope decls (unit_names decls) class m
unfolding method_scope
method_scope_is decls class m = refl

in_class : (c : CheckedMethod) (decls : List (Decl ℕ)) (class : ℕ) (m : Method ℕ) → MethodIn c decls (method_scope decls (unit_names decls) class m) m → ChecksMethod c decls class m
in_class c decls class m i = record {
  least = i.least;
  tree = λ h. record { line = i.line; modifiers = i.modifiers; name = i.name; result = i.result; sections = i.sections; body = i.body h };
}

pub method_checks : (c : CheckedMethod) (decls own : List (Decl ℕ)) (class : ℕ) (m : Method ℕ) (s : Scope) (vs us : List DeclaredVariable) (xs : List (Section ℕ)) → own ≡ decls → xs ≡ m.sections → vs ≡ locals_of (scope_in decls (Some class) true []) m.name.text m.result xs → us ≡ vs
    → s ≡ scope_in decls (Some class) true us → MethodIn c own s m → ChecksMethod c decls class m
method_checks c decls own class m s vs us xs d a v u e i =
    let t : s ≡ method_scope decls (unit_names decls) class m = e ∙ ap (scope_in decls (Some class) true) (u ∙ v ∙ ap (λ zs. locals_of (scope_in decls (Some class) true []) m.name.text m.result zs) a) ∙ method_scope_is decls class m in
    in_class c decls class m (subst (λ (z : Scope). MethodIn c decls z m) t (subst (λ (ds : List (Decl ℕ)). MethodIn c ds s m) d i))

-- ---- methods of interfaces

pub prototype_in : (c : CheckedPrototype) (decls : List (Decl ℕ)) (s : Scope) (m : Prototype ℕ) (own : Name) (found : CheckedVariables) (xs : List (Section ℕ)) → xs ≡ m.sections → own ≡ m.name → ChecksVariables found decls s of_prototype m.line m.result xs → IsPrototype c m.line own found
    → PrototypeIn c decls s m
prototype_in c decls s m own found xs a o q w =
    let f : ChecksVariables found decls s of_prototype m.line m.result m.sections = subst (λ (zs : List (Section ℕ)). ChecksVariables found decls s of_prototype m.line m.result zs) a q in
    record {
      least = w.least ∙ f.least;
      line = w.line;
      name = w.name ∙ o;
      result = subst (λ (u : Option (TypeSpec Note)). IfThere (TypedSpec s) m.result u) (sym w.result) f.result;
      sections = subst (λ (xs : List (Section Note)). Each (TypedSection s) m.sections xs) (sym w.sections) f.trees;
    }

prototype_scope_is : (decls : List (Decl ℕ)) (m : Prototype ℕ) → scope_in decls None false (locals_of (scope_in decls None false []) m.name.text m.result m.sections) ≡ prototype_scope decls (unit_names decls) m
unfolding prototype_scope
prototype_scope_is decls m = refl

in_interface : (c : CheckedPrototype) (decls : List (Decl ℕ)) (m : Prototype ℕ) → PrototypeIn c decls (prototype_scope decls (unit_names decls) m) m → ChecksPrototype c decls m
in_interface c decls m i = record {
  least = i.least;
  tree = record { line = i.line; name = i.name; result = i.result; sections = i.sections };
}

pub prototype_checks : (c : CheckedPrototype) (decls own : List (Decl ℕ)) (m : Prototype ℕ) (s : Scope) (vs us : List DeclaredVariable) (xs : List (Section ℕ)) → own ≡ decls → xs ≡ m.sections → vs ≡ locals_of (scope_in decls None false []) m.name.text m.result xs → us ≡ vs
    → s ≡ scope_in decls None false us → PrototypeIn c own s m → ChecksPrototype c decls m
prototype_checks c decls own m s vs us xs d a v u e i =
    let t : s ≡ prototype_scope decls (unit_names decls) m = e ∙ ap (scope_in decls None false) (u ∙ v ∙ ap (λ zs. locals_of (scope_in decls None false []) m.name.text m.result zs) a) ∙ prototype_scope_is decls m in
    in_interface c decls m (subst (λ (z : Scope). PrototypeIn c decls z m) t (subst (λ (ds : List (Decl ℕ)). PrototypeIn c ds s m) d i))
