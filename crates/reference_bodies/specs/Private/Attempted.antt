-- What `?=` gives.
use Rattle.std.specs.Prelude.{if◌then◌else◌, Option, Some, None}
use Rattle.st_types.specs.declared.st_type.StType.{StType}
use Rattle.st_tree.specs.declared.path.Path.{Path}
use Rattle.st_values.specs.Program.{Program, conforms}
use Rattle.st_values.specs.Value.{Value, reference}
use Rattle.st_meaning.specs.State.{in_store, Run, ◌>>=◌, gives}
use Rattle.call_steps.specs.Found.{class_there}

abbrev pub kept_if : Program → StType → Path → Run (Option Path)
kept_if p t q = do
  c ← class_there p (in_store q)
  gives (if conforms p c t then Some q else None)

abbrev pub held : Run (Option Path) → Run Value
held m = do
  q ← m
  gives (reference q)

abbrev pub attempted : Program → StType → Option Path → Run Value
attempted p t None = gives (reference None)
attempted p t (Some q) = held (kept_if p t q)
