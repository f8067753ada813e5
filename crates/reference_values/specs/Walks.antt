-- What a walk over the tree of a program stands on.
use Rattle.std.specs.Prelude.{ℕ, List, map, Option, Result}
use denote.Ref.{MutBor}
use Rattle.st_tree.specs.declared.path.Path.{Path}
use Rattle.st_tree.specs.declared.program.Program.{Program}
use Rattle.st_values.specs.View.{program_of}
use Rattle.st_meaning.specs.Enter.{enter}
use Rattle.program_tables.specs.declared.routine.RoutineId.{RoutineId}
use Rattle.program_tables.specs.Routine.{routine_of}
use Rattle.routine_tables.specs.declared.tables.RoutineTables.{RoutineTables}
use Rattle.routine_tables.specs.Tables.{Holds}
use Rattle.call_frames.specs.declared.slots.Given.{Given}
use Rattle.call_frames.specs.Opening.{given_of}
use Rattle.run_state.specs.declared.state.Frame.{Frame}
use Rattle.run_state.specs.declared.state.RunState.{RunState}
use Rattle.run_state.specs.declared.state.Stop.{Stop}
use Rattle.run_state.specs.State.{Shows, Keeps, base_of, frame_of, state_of}

-- The tables are those of the program. A routine may always be entered, and then does what it does where so many more calls may be open.
pub record Walks (p : Program) (routines : RoutineTables) (room : ℕ)
    (pre : MutBor RunState → RoutineId → Option Path → List Given → ℕ → Type 0)
    (post : MutBor RunState → RoutineId → Option Path → List Given → ℕ → Result Frame Stop → MutBor RunState → Type 0) : Type 0 where
  pub holds : Holds p routines
  pub callable : (m : MutBor RunState) (r : RoutineId) (own : Option Path) (given : List Given) (line : ℕ) → pre m r own given line
  pub runs : (m m' : MutBor RunState) (r : RoutineId) (own : Option Path) (given : List Given) (line : ℕ) (x : Result Frame Stop) → post m r own given line x m'
      → Shows frame_of x (enter (program_of p) room (routine_of p r) own (map given_of given) line (state_of m.now)) (state_of m'.now)
  pub keeps : (m m' : MutBor RunState) (r : RoutineId) (own : Option Path) (given : List Given) (line : ℕ) (x : Result Frame Stop) → post m r own given line x m'
      → Keeps x (base_of m.now) (base_of m'.now)
