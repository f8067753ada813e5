-- The routine of a call, with the instance on which it runs.
use Rattle.std.specs.Prelude.{ℕ, Option}
use Rattle.st_tree.specs.declared.path.Path.{Path}
use Rattle.st_tree.specs.declared.program.Program.{Program as CheckedProgram}
use Rattle.st_values.specs.Program.{Routine, Program, class_number, body_of}
use Rattle.st_values.specs.Value.{◌>>=◌ as ◌>>?◌}
use Rattle.st_meaning.specs.State.{Spot, Run, ◌>>=◌, gives, there, read, path_of}
use Rattle.st_meaning.specs.Operation.{class_in}
use Rattle.program_tables.specs.Routine.{routine_of}
use Rattle.call_steps.specs.declared.found.Found.{Found as CodeFound}

pub record Found : Type 0 where
  pub routine : Routine
  pub own : Path

abbrev pub found_of : CheckedProgram → CodeFound → Found
found_of p f = record { routine = routine_of p f.routine; own = f.own }

-- the number of the class of the instance at a spot
abbrev pub class_there : Program → Spot → Run ℕ
class_there p spot = do
  v ← read spot
  there (class_in v >>? class_number p)

-- what is sought from the class of the instance at a spot
abbrev pub on_instance : Program → (ℕ → Option Routine) → Spot → Run Found
on_instance p sought spot = do
  q ← there (path_of spot)
  c ← class_there p spot
  r ← there (sought c)
  gives (record { routine = r; own = q })

-- the body of a class of the text
abbrev pub on_base : Program → ℕ → Spot → Run Found
on_base p d spot = do
  q ← there (path_of spot)
  r ← there (body_of p d)
  gives (record { routine = r; own = q })
