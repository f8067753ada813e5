-- Parameters with their numbers, as the code tells them.
use Rattle.std.specs.Prelude.{ℕ, List, map, Option, option_map}
use Rattle.st_rules.specs.declared.names.DeclaredVariable.{DeclaredVariable}
use Rattle.check_calls.specs.declared.matching.Matched.{Matched}

abbrev pub numbered : Matched → ℕ × DeclaredVariable
numbered m = (m.number, m.parameter.now)

abbrev pub matched_of : Option Matched → Option (ℕ × DeclaredVariable)
matched_of o = option_map numbered o

abbrev pub numbered_all : List Matched → List (ℕ × DeclaredVariable)
numbered_all ms = map numbered ms

abbrev pub matched_all : List (Option Matched) → List (Option (ℕ × DeclaredVariable))
matched_all ms = map matched_of ms
