-- Why lexemes are no unit, before declaration and line are told.
use Rattle.std.specs.Prelude.{ℕ, ◌-◌, ◌≤◌, List, length, nat_lt, if◌then◌else◌}
use Rattle.st_tree.specs.Grammar.{Lexeme}
use Rattle.st_tree.specs.Beginnings.{StopsAt, IsUnit}
use Rattle.st_parser_expr.specs.declared.stop.Stop.{Stop}
use Rattle.st_parser_expr.specs.declared.stop.Stop.TheVariants.{Left, NoMemory}
use Rattle.st_parser_decl.specs.declared.reading.Cause.{Cause}
use Rattle.st_parser_decl.specs.declared.reading.Cause.TheVariants as cause

-- the lexemes are no unit, and with so many left the first stands with which none begins
pub record NoUnitLeft (ts : List Lexeme) (left : ℕ) : Type 0 where
  pub within : left ≤ length ts
  pub stops : StopsAt IsUnit ts (length ts - left)
  pub no_unit : IsUnit ts → ⊥

abbrev pub HasStop : List Lexeme → Stop → Type 0
HasStop ts (Left n) = NoUnitLeft ts n
HasStop ts NoMemory = Unit {0}

abbrev pub none_deep_cause_of : ℕ → Stop → Cause
none_deep_cause_of all (Left n) = cause.NoUnit (all - n)
none_deep_cause_of all NoMemory = cause.NoMemory

abbrev pub deep_cause_of : ℕ → Stop → Cause
deep_cause_of deep (Left n) = if nat_lt 0 n then cause.NoUnit (deep - (n - 1)) else cause.TooDeep deep
deep_cause_of deep NoMemory = cause.NoMemory
