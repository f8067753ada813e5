-- What is found out about a function or a method.
use Rattle.std.specs.Prelude.{◌≡◌, ℕ, List, Option, None}
use Rattle.st_tree.specs.declared.declaration.Section.{Section}
use Rattle.st_tree.specs.declared.statement.Stmt.{Stmt}
use Rattle.st_tree.specs.declared.type_spec.TypeSpec.{TypeSpec}
use Rattle.st_tree.specs.declared.unit.Decl.{Decl}
use Rattle.st_rules.specs.Faults.{least}
use Rattle.st_rules.specs.Scope.{Scope}
use Rattle.st_unit_rules.specs.Checked.{Each, IfThere, TypedBody, TypedSection, TypedSpec}
use Rattle.st_unit_rules.specs.DeclarationRules.{routine_faults}
use Rattle.st_unit_rules.specs.VariableRules.{Home}
use Rattle.check_routines.specs.declared.routine_rules.routines.CheckedRoutine.{CheckedRoutine}

-- its name counts for none of these rules
pub record ChecksRoutine (c : CheckedRoutine) (decls : List (Decl ℕ)) (s : Scope) (home : Home) (line : ℕ) (spec : Option (TypeSpec ℕ)) (sections : List (Section ℕ)) (text : List (Stmt ℕ)) : Type 0 where
  pub least : (name : List ℕ) → c.least ≡ least (routine_faults decls s home line name spec sections text)
  pub result : IfThere (TypedSpec s) spec c.result
  pub trees : Each (TypedSection s) sections c.sections
  pub body : c.least ≡ None → TypedBody s text c.body
