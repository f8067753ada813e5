-- Operators that the left operand alone may decide.
use Rattle.std.specs.Prelude.{◌≡◌, ℕ, Bool, true, false, Option, Some, None}
use Rattle.st_types.specs.declared.elem.Elem.{Elem}
use Rattle.st_tree.specs.declared.expression.Operator.{Operator}
use Rattle.st_tree.specs.declared.expression.Operator.TheVariants as operator
use Rattle.st_tree.specs.Expression.{Argument, Positional}
use Rattle.st_tree.specs.declared.program.Note.{Note}
use Rattle.st_unit_rules.specs.declared_names.Constants.{Outcome, cannot_be_told, both, if_true, if_false}
use Rattle.constant_folding.specs.constant_values.Noted.{noted_value}

-- whether the right operand is evaluated where the left one is true, or where it is false; of all others it always is
abbrev pub evaluates_if : Operator → Option Bool
evaluates_if operator.AndThen = Some true
evaluates_if operator.OrElse = Some false
evaluates_if operator.Or = None
evaluates_if operator.Xor = None
evaluates_if operator.And = None
evaluates_if operator.Equal = None
evaluates_if operator.Differs = None
evaluates_if operator.Less = None
evaluates_if operator.Greater = None
evaluates_if operator.AtMost = None
evaluates_if operator.AtLeast = None
evaluates_if operator.Plus = None
evaluates_if operator.Minus = None
evaluates_if operator.Times = None
evaluates_if operator.Divide = None
evaluates_if operator.Modulo = None

abbrev pub operated_if : Option Bool → Operator → Elem → ℕ → Outcome → Outcome → Outcome
operated_if (Some true) o e line x y = if_true x y
operated_if (Some false) o e line x y = if_false x y
operated_if None o e line x y = both o e line x y

-- the value of a conversion's operand
abbrev pub given_value : Argument Note → Outcome
given_value (Positional e) = noted_value e
given_value _ = cannot_be_told
