-- Rows of operators as operations of two operands: the row before the last operator, and the operand behind it.
use Rattle.std.specs.Prelude.{ℕ, if◌then◌else◌}
use Rattle.st_tree.specs.declared.expression.Operator.{Operator}
use Rattle.st_tree.specs.Expression.{Expression, Tails, no_tails, tail_then}
use Rattle.st_rules.specs.declared.asked.Asked.{Asked}
use Rattle.st_rules.specs.declared.asked.Asked.TheVariants.{Anything}
use Rattle.st_rules.specs.Kinds.{is_arithmetic}
use Rattle.st_rules.specs.Literals.{asked_of, number_asked}
use Rattle.st_rules.specs.Scope.{Scope}
use Rattle.st_rules.specs.Expressions.{is_untyped, type_of}

-- a row with one operator and its operand more
abbrev pub tails_and : Tails ℕ → ℕ → Operator → Expression ℕ → Tails ℕ
tails_and no_tails l o e = tail_then l o e no_tails
tails_and (tail_then k p x ts) l o e = tail_then k p x (tails_and ts l o e)

-- what two untyped operands are asked for: an arithmetic operator hands on what the operation is asked for
abbrev pub both_asked : Operator → Asked → Asked
both_asked o asked = if is_arithmetic o then number_asked asked else Anything

-- what an operand is asked for beside another one: an untyped one takes the other's type, where that has one of its own
abbrev pub beside : Scope → Operator → Asked → Expression ℕ → Expression ℕ → Asked
beside s o asked e other = if is_untyped e then (if is_untyped other then both_asked o asked else asked_of (type_of s Anything other)) else Anything
