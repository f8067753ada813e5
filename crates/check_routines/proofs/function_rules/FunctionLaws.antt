-- A function from its parts, and in the scope with its locals.
use Rattle.std.proofs.Common.{◌≡◌, ℕ, false, List, [], ◌++◌, Option, Some, None, refl, sym, ap, ◌∙◌, subst}
use Rattle.plc_text.specs.declared.code.Code.{Code}
use Rattle.st_tree.specs.declared.declaration.FunctionDecl.{FunctionDecl}
use Rattle.st_tree.specs.declared.declaration.Section.{Section}
use Rattle.st_tree.specs.declared.name.Name.{Name}
use Rattle.st_tree.specs.declared.program.Note.{Note}
use Rattle.st_tree.specs.declared.statement.Stmt.{Stmt}
use Rattle.st_tree.specs.declared.type_spec.TypeSpec.{TypeSpec}
use Rattle.st_tree.specs.declared.unit.Decl.{Decl}
use Rattle.st_rules.specs.declared.names.DeclaredVariable.{DeclaredVariable}
use Rattle.st_rules.specs.Faults.{least, earlier}
use Rattle.st_rules.specs.Scope.{Scope}
use Rattle.st_unit_rules.specs.declared_names.UnitNames.{unit_names, unit_scope, locals_of, function_scope}
use Rattle.st_unit_rules.specs.Checked.{Each, IfThere, TypedBody, TypedSection, TypedSpec, TypedFunction}
use Rattle.st_unit_rules.specs.DeclarationRules.{routine_faults, function_faults}
use Rattle.st_unit_rules.specs.NameRules.{local_name_faults}
use Rattle.st_unit_rules.specs.VariableRules.{of_routine}
use Rattle.check_initial_values.proofs.Parts.{joined}
use Rattle.check_routines.specs.declared.routine_rules.routines.CheckedRoutine.{CheckedRoutine}
use Rattle.check_routines.specs.routine_rules.Routines.{ChecksRoutine}
use Rattle.symbol_table.specs.unit_tables.Scopes.{scope_in}
use Rattle.check_routines.specs.declared.function_rules.functions.CheckedFunction.{CheckedFunction}
use Rattle.check_routines.specs.function_rules.Functions.{ChecksFunction}
use Rattle.check_routines.specs.function_rules.Private.Functions.{IsFunction, function_faults_in, FunctionIn}

pub none_behind : (a b : Option (Code × ℕ)) → earlier a b ≡ None → b ≡ None
none_behind None b h = h
none_behind (Some x) None h = absurd (cc h)
none_behind (Some x) (Some y) h = absurd (cc h)

pub function_in : (c : CheckedFunction) (decls : List (Decl ℕ)) (s : Scope) (f : FunctionDecl ℕ) (own : Name) (names : Option (Code × ℕ)) (found : CheckedRoutine) (xs : List (Section ℕ)) (ys : List (Stmt ℕ)) → xs ≡ f.sections → ys ≡ f.body → names ≡ least (local_name_faults f.name.text xs) → own ≡ f.name
    → ChecksRoutine found decls s of_routine f.line f.result xs ys → IsFunction c f.line own names found → FunctionIn c decls s f
function_in c decls s f own names found xs ys a b n o q w =
    let r : ChecksRoutine found decls s of_routine f.line f.result f.sections f.body =
    subst (λ (zs : List (Stmt ℕ)). ChecksRoutine found decls s of_routine f.line f.result f.sections zs) b (subst (λ (zs : List (Section ℕ)). ChecksRoutine found decls s of_routine f.line f.result zs ys) a q) in
    record {
      least =
          joined c.least names found.least (local_name_faults f.name.text f.sections) (routine_faults decls s of_routine f.line f.name.text f.result f.sections f.body) w.least
          (n ∙ ap (λ zs. least (local_name_faults f.name.text zs)) a) (r.least f.name.text);
      line = w.line;
      name = w.name ∙ o;
      result = subst (λ (t : Option (TypeSpec Note)). IfThere (TypedSpec s) f.result t) (sym w.result) r.result;
      sections = subst (λ (zs : List (Section Note)). Each (TypedSection s) f.sections zs) (sym w.sections) r.trees;
      body = λ h. subst (λ (zs : List (Stmt Note)). TypedBody s f.body zs) (sym w.body) (r.body (none_behind names found.least (sym w.least ∙ h)));
    }

-- the scope that is said of a function
pub function_scope_is : (decls : List (Decl ℕ)) (f : FunctionDecl ℕ) → scope_in decls None false (locals_of (scope_in decls None false []) f.name.text f.result f.sections) ≡ function_scope decls (unit_names decls) f
unfolding function_scope
function_scope_is decls f = refl

in_scope : (c : CheckedFunction) (decls : List (Decl ℕ)) (f : FunctionDecl ℕ) → FunctionIn c decls (function_scope decls (unit_names decls) f) f → ChecksFunction c decls f
in_scope c decls f i = record {
  least = i.least;
  tree = λ h. record { line = i.line; name = i.name; result = i.result; sections = i.sections; body = i.body h };
}

pub function_checks : (c : CheckedFunction) (decls own : List (Decl ℕ)) (f : FunctionDecl ℕ) (s : Scope) (vs us : List DeclaredVariable) (xs : List (Section ℕ)) → own ≡ decls → xs ≡ f.sections → vs ≡ locals_of (scope_in decls None false []) f.name.text f.result xs → us ≡ vs → s ≡ scope_in decls None false us
    → FunctionIn c own s f → ChecksFunction c decls f
function_checks c decls own f s vs us xs d a v u e i =
    let t : s ≡ function_scope decls (unit_names decls) f = e ∙ ap (scope_in decls None false) (u ∙ v ∙ ap (λ zs. locals_of (scope_in decls None false []) f.name.text f.result zs) a) ∙ function_scope_is decls f in
    in_scope c decls f (subst (λ (z : Scope). FunctionIn c decls z f) t (subst (λ (ds : List (Decl ℕ)). FunctionIn c ds s f) d i))
