-- The numbers that settings stand for.
use Rattle.std.specs.Prelude.{ℕ, nat_lt, Option, Some, None, if◌then◌else◌}
use Rattle.st_tree.specs.Duration.{milliseconds}
use Rattle.st_tree.specs.Number.{number_of}
use Rattle.st_tree.specs.declared.configuration.SettingValue.{SettingValue}
use Rattle.st_tree.specs.declared.configuration.SettingValue.TheVariants as value

abbrev pub number_in : SettingValue → ℕ
number_in (value.Int digits) = number_of digits
number_in (value.Time text) = milliseconds text

-- the same, unless it does not fit 32 bits
abbrev pub fitting : Option ℕ → Option (Option ℕ)
fitting None = Some None
fitting (Some n) = if nat_lt n 4_294_967_296 then Some (Some n) else None
