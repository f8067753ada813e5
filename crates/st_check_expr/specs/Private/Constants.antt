-- What is found out about an expression where a constant is wanted, from its parts.
use Rattle.std.specs.Prelude.{ℕ, ℤ, Option, Some, None}
use Rattle.plc_text.specs.declared.code.Code.{Code}
use Rattle.st_rules.specs.Faults.{earlier, least}
use Rattle.st_rules.specs.Scope.{Scope}
use Rattle.st_unit_rules.specs.declared_names.Constants.{Outcome, comes_to, zero_divisor}

-- a number where no rule is broken
abbrev pub number_found : Option (Code × ℕ) → Outcome → Option ℤ
number_found None (comes_to z) = Some z
number_found _ _ = None

-- what the expression breaks as a value, its parts, and a zero divisor
abbrev pub own_least : Scope → Option (Code × ℕ) → Option (Code × ℕ) → Option (Code × ℕ) → Outcome → Option (Code × ℕ)
own_least s broken of_value of_parts v = earlier (earlier (earlier broken of_value) of_parts) (least (zero_divisor s v))
