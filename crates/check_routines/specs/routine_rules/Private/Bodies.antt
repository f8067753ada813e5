-- A body that is refused for a rule.
use Rattle.std.specs.Prelude.{◌≡◌, ℕ, Option, Some}
use Rattle.plc_text.specs.declared.code.Code.{Code}
use Rattle.st_check_expr.specs.declared.broken.Broken.{Broken}
use Rattle.st_check_expr.specs.declared.broken.Broken.TheVariants.{Rule, NoMemory}

abbrev pub IsRefused : Option (Code × ℕ) → Broken → Type 0
IsRefused o (Rule code line) = o ≡ Some (code, line)
IsRefused o NoMemory = ⊥
