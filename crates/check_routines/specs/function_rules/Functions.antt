-- What is found out about a function.
use Rattle.std.specs.Prelude.{◌≡◌, ℕ, List, None}
use Rattle.st_tree.specs.declared.declaration.FunctionDecl.{FunctionDecl}
use Rattle.st_tree.specs.declared.unit.Decl.{Decl}
use Rattle.st_rules.specs.Faults.{least}
use Rattle.st_unit_rules.specs.Checked.{TypedFunction}
use Rattle.st_unit_rules.specs.DeclarationRules.{function_faults}
use Rattle.check_routines.specs.declared.function_rules.functions.CheckedFunction.{CheckedFunction}

pub record ChecksFunction (c : CheckedFunction) (decls : List (Decl ℕ)) (f : FunctionDecl ℕ) : Type 0 where
  pub least : c.least ≡ least (function_faults decls f)
  pub tree : c.least ≡ None → TypedFunction decls f c.function
