-- A row of operators, from its first operand on.
use Rattle.std.specs.Prelude.{◌≡◌, ℕ, Bool, ◌&&◌, if◌then◌else◌, [], ◌∷◌, ◌++◌, map, Option, Some}
use Rattle.st_tree.specs.declared.expression.Operator.{Operator}
use Rattle.st_tree.specs.declared.program.Target.TheVariants.{Nothing}
use Rattle.st_tree.specs.Expression.{Chain, tail_of, tails_of, expression_of}
use Rattle.st_rules.specs.declared.asked.Asked.{Asked}
use Rattle.st_rules.specs.Faults.{least, earlier}
use Rattle.st_rules.specs.Kinds.{is_arithmetic, operation_type}
use Rattle.st_rules.specs.Literals.{asked_of, number_asked}
use Rattle.st_rules.specs.Expressions.{note, operands_unsuited, unsuited_line}
use Rattle.check_nodes.specs.declared.found.Checked.{Checked}
use Rattle.check_nodes.specs.declared.rows.Row.{Row}
use Rattle.check_nodes.specs.declared.rows.Ahead.{Ahead}

pub record Begins (r : Row) (untyped : Bool) (x : Checked) : Type 0 where
  pub is_untyped : r.untyped ≡ untyped
  pub told : r.told ≡ x.told
  pub least : r.least ≡ x.least
  pub first : expression_of r.first ≡ expression_of x.tree
  pub tails : map tail_of r.tails ≡ []

-- the row, from the row before it and the operand that is joined, which is untyped or not and has a line of its own: where an untyped one
-- cannot take the type beside it, it is refused and not the operation
pub record Joins (r : Row) (line : ℕ) (o : Operator) (own : ℕ) (alone : Bool) (before : Row) (y : Checked) : Type 0 where
  pub untyped : r.untyped ≡ (is_arithmetic o && before.untyped && alone)
  pub told : r.told ≡ operation_type o before.told y.told
  pub least : r.least ≡ earlier (earlier before.least y.least) (least (operands_unsuited (unsuited_line alone own line before.told y.told) o before.told y.told))
  pub first : expression_of r.first ≡ expression_of before.first
  pub tails : map tail_of r.tails ≡ map tail_of before.tails ++ (note line (operation_type o before.told y.told) Nothing, o, expression_of y.tree) ∷ []

-- the row as an expression
pub record Closes (c : Checked) (line : ℕ) (row : Row) : Type 0 where
  pub told : c.told ≡ row.told
  pub least : c.least ≡ row.least
  pub tree : expression_of c.tree ≡ Chain (note line row.told Nothing) (expression_of row.first) (tails_of row.tails)

-- the front of a row that ends at this operand
pub record EndsFront (a : Ahead) (y : Checked) : Type 0 where
  pub asked : a.asked ≡ asked_of y.told
  pub kept : a.kept ≡ Some y

-- a front, behind an operand or not
pub record Looks (a : Ahead) (passed : Bool) (asked : Asked) (kept : Option Checked) : Type 0 where
  pub wanted : a.asked ≡ (if passed then number_asked asked else asked)
  pub same : a.kept ≡ kept
