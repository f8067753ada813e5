-- A way of entering, by what it did.
use Rattle.std.specs.Prelude.{ℕ, List, Option, Result}
use denote.Ref.{MutBor}
use Rattle.st_tree.specs.declared.path.Path.{Path}
use Rattle.st_tree.specs.declared.program.Program.{Program}
use Rattle.program_tables.specs.declared.routine.RoutineId.{RoutineId}
use Rattle.routine_tables.specs.declared.tables.RoutineTables.{RoutineTables}
use Rattle.routine_tables.specs.Tables.{Holds}
use Rattle.call_frames.specs.declared.slots.Given.{Given}
use Rattle.run_state.specs.declared.state.Frame.{Frame}
use Rattle.run_state.specs.declared.state.RunState.{RunState}
use Rattle.run_state.specs.declared.state.Stop.{Stop}
use Rattle.reference_tasks.specs.Private.Entered.{Entered}
use Rattle.reference_values.specs.Walks.{Walks}

module _ (p : Program) (routines : RoutineTables) (room : ℕ)
    (pre : MutBor RunState → RoutineId → Option Path → List Given → ℕ → Type 0)
    (post : MutBor RunState → RoutineId → Option Path → List Given → ℕ → Result Frame Stop → MutBor RunState → Type 0) where
  pub walks_by : Holds p routines → ((m : MutBor RunState) (r : RoutineId) (own : Option Path) (given : List Given) (line : ℕ) → pre m r own given line)
      → ((m m' : MutBor RunState) (r : RoutineId) (own : Option Path) (given : List Given) (line : ℕ) (x : Result Frame Stop) → post m r own given line x m' → Entered p room r own given line m.now x m'.now)
      → Walks p routines room pre post
  walks_by holds callable entered = record {
    holds = holds;
    callable = callable;
    runs = λ m m' r own given line x h. (entered m m' r own given line x h).run;
    keeps = λ m m' r own given line x h. (entered m m' r own given line x h).base;
  }
