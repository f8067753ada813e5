-- A function in its scope.
use Rattle.std.specs.Prelude.{◌≡◌, ℕ, List, ◌++◌, Option, None}
use Rattle.plc_text.specs.declared.code.Code.{Code}
use Rattle.st_tree.specs.declared.declaration.FunctionDecl.{FunctionDecl}
use Rattle.st_tree.specs.declared.name.Name.{Name}
use Rattle.st_tree.specs.declared.unit.Decl.{Decl}
use Rattle.st_rules.specs.Faults.{Faults, least, earlier}
use Rattle.st_rules.specs.Scope.{Scope}
use Rattle.st_unit_rules.specs.Checked.{Each, IfThere, TypedBody, TypedSection, TypedSpec}
use Rattle.st_unit_rules.specs.DeclarationRules.{routine_faults}
use Rattle.st_unit_rules.specs.NameRules.{local_name_faults}
use Rattle.st_unit_rules.specs.VariableRules.{of_routine}
use Rattle.check_routines.specs.declared.routine_rules.routines.CheckedRoutine.{CheckedRoutine}
use Rattle.check_routines.specs.declared.function_rules.functions.CheckedFunction.{CheckedFunction}

pub record IsFunction (c : CheckedFunction) (heading : ℕ) (own : Name) (names : Option (Code × ℕ)) (found : CheckedRoutine) : Type 0 where
  pub least : c.least ≡ earlier names found.least
  pub line : c.function.line ≡ heading
  pub name : c.function.name ≡ own
  pub result : c.function.result ≡ found.result
  pub sections : c.function.sections ≡ found.sections
  pub body : c.function.body ≡ found.body

-- all rules of a function in the scope with its locals
abbrev pub function_faults_in : List (Decl ℕ) → Scope → FunctionDecl ℕ → Faults
function_faults_in decls s f = local_name_faults f.name.text f.sections ++ routine_faults decls s of_routine f.line f.name.text f.result f.sections f.body

pub record FunctionIn (c : CheckedFunction) (decls : List (Decl ℕ)) (s : Scope) (f : FunctionDecl ℕ) : Type 0 where
  pub least : c.least ≡ least (function_faults_in decls s f)
  pub line : c.function.line ≡ f.line
  pub name : c.function.name ≡ f.name
  pub result : IfThere (TypedSpec s) f.result c.function.result
  pub sections : Each (TypedSection s) f.sections c.function.sections
  pub body : c.least ≡ None → TypedBody s f.body c.function.body
