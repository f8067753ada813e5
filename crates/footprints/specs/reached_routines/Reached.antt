-- The routines that a task reaches, by their declarations.
use Rattle.std.specs.Prelude.{◌≡◌, ℕ, List, Some, slice_get}
use Rattle.st_tree.specs.declared.program.Program.{Program}
use Rattle.st_values.specs.Program.{Routine}
use Rattle.st_values.specs.View.{program_of}
use Rattle.st_meaning.specs.st_frame.Footprint.{Reached}
use Rattle.program_tables.specs.Routine.{routine_of}
use Rattle.program_tables.specs.declared.routine.RoutineId.{RoutineId}

-- the declaration of a routine stands in the list
pub record IsListed (p : Program) (ids : List RoutineId) (r : Routine) : Type 0 where
  pub place : ℕ
  pub id : RoutineId
  pub there : slice_get ids place ≡ Some id
  pub is : routine_of p id ≡ r

-- the list has the declarations of just the routines that the task reaches
pub record IsReached (p : Program) (task : ℕ) (ids : List RoutineId) : Type 0 where
  pub sound : (k : ℕ) (id : RoutineId) → slice_get ids k ≡ Some id → Reached (program_of p) task (routine_of p id)
  pub complete : (r : Routine) → Reached (program_of p) task r → IsListed p ids r
