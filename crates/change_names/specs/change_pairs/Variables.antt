-- Variables by their names.
use Rattle.std.specs.Prelude.{ℕ, Bool, List}
use Rattle.plc_text.specs.Words.{same}
use Rattle.program_tables.specs.declared.st_initial.variables.Variable as held

abbrev pub has_name : List ℕ → held.Variable → Bool
has_name name v = same v.name.now name
