-- What two operands give, where that may be the second as it is.
use Rattle.std.specs.Prelude.{Option, Some, None}
use Rattle.st_values.specs.Value.{Value}
use Rattle.value_trees.specs.declared.value.Value.{Value as CodeValue}
use Rattle.value_trees.specs.Value.{value_of}

-- a value, or the second operand where there is none
abbrev pub or_second : Value → Option CodeValue → Value
or_second y None = y
or_second y (Some v) = value_of v
