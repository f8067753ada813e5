-- What is found out about a body.
use Rattle.std.specs.Prelude.{◌≡◌, ℕ, List, None}
use Rattle.st_tree.specs.declared.statement.Stmt.{Stmt}
use Rattle.st_tree.specs.Statement.{statements_of}
use Rattle.st_rules.specs.Faults.{least}
use Rattle.st_rules.specs.Scope.{Scope}
use Rattle.st_rules.specs.Statements.{body_faults}
use Rattle.st_unit_rules.specs.Checked.{TypedBody}
use Rattle.check_routines.specs.declared.routine_rules.bodies.FoundBody.{FoundBody}

pub record FindsBody (c : FoundBody) (s : Scope) (text : List (Stmt ℕ)) : Type 0 where
  pub least : c.least ≡ least (body_faults s (statements_of text))
  pub body : c.least ≡ None → TypedBody s text c.body
