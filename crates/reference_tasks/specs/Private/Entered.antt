-- A routine that was entered.
use Rattle.std.specs.Prelude.{ℕ, List, map, Option, Result}
use Rattle.st_tree.specs.declared.path.Path.{Path}
use Rattle.st_tree.specs.declared.program.Program.{Program}
use Rattle.st_values.specs.View.{program_of}
use Rattle.st_meaning.specs.Enter.{enter}
use Rattle.program_tables.specs.declared.routine.RoutineId.{RoutineId}
use Rattle.program_tables.specs.Routine.{routine_of}
use Rattle.call_frames.specs.declared.slots.Given.{Given}
use Rattle.call_frames.specs.Opening.{given_of}
use Rattle.run_state.specs.declared.state.Frame.{Frame}
use Rattle.run_state.specs.declared.state.RunState.{RunState}
use Rattle.run_state.specs.declared.state.Stop.{Stop}
use Rattle.run_state.specs.State.{Shows, Keeps, base_of, frame_of, state_of}

-- what entering a routine did, where so many calls may be open with it
pub record Entered (p : Program) (room : ℕ) (r : RoutineId) (own : Option Path) (given : List Given) (line : ℕ) (before : RunState) (x : Result Frame Stop) (after : RunState) : Type 0 where
  pub run : Shows frame_of x (enter (program_of p) room (routine_of p r) own (map given_of given) line (state_of before)) (state_of after)
  pub base : Keeps x (base_of before) (base_of after)
