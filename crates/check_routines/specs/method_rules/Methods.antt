-- What is found out about a method of a class.
use Rattle.std.specs.Prelude.{◌≡◌, ℕ, List, None}
use Rattle.st_tree.specs.declared.declaration.Method.{Method}
use Rattle.st_tree.specs.declared.unit.Decl.{Decl}
use Rattle.st_rules.specs.Faults.{least}
use Rattle.st_unit_rules.specs.Checked.{TypedMethod}
use Rattle.st_unit_rules.specs.DeclarationRules.{method_faults}
use Rattle.check_routines.specs.declared.method_rules.methods.CheckedMethod.{CheckedMethod}

-- of the class of this number
pub record ChecksMethod (c : CheckedMethod) (decls : List (Decl ℕ)) (class : ℕ) (m : Method ℕ) : Type 0 where
  pub least : c.least ≡ least (method_faults decls class m)
  pub tree : c.least ≡ None → TypedMethod decls class m c.method
