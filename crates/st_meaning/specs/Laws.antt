-- Laws of runs.
use Rattle.std.specs.Prelude.{◌≡◌, ◌≤◌, ℕ, Bool, List, Option}
use Rattle.plc_text.specs.declared.fault.Fault.{Fault as FaultAt}
use Rattle.cycle_journal.specs.declared.entry.CycleReply.TheVariants as reply
use Rattle.st_tree.specs.declared.program.Note.{Note}
use Rattle.st_tree.specs.Expression.{Expression}
use Rattle.st_tree.specs.Statement.{Statements}
use Rattle.st_values.specs.Program.{Routine, Program}
use Rattle.st_values.specs.Value.{Path, Store}
use Rattle.st_meaning.specs.State.{State, Outcome, Done, Fault, Run}
use Rattle.st_meaning.specs.Call.{Given}
use Rattle.st_meaning.specs.Expression.{value}
use Rattle.st_meaning.specs.Loop.{Flow, turn, turn_until, loop, loop_until}
use Rattle.st_meaning.specs.Statement.{effects}
use Rattle.st_meaning.specs.Enter.{enter, run_task}
use Rattle.st_meaning.specs.Cycle.{cycle}

-- no ticks are made
abbrev pub NoMore : {A : Type 0} → ℕ → Outcome A → Type 0
NoMore n (Done a s) = s.ticks ≤ n
NoMore n (Fault kind line) = Unit {0}

pub record TicksFall : Type 0 where
  pub values : (p : Program) (room : ℕ) (e : Expression Note) (line : ℕ) (s : State) → NoMore s.ticks (value p (enter p room) e line s)
  pub statements : (p : Program) (room : ℕ) (body : Statements Note) (line : ℕ) (s : State) → NoMore s.ticks (effects p (enter p room) body line s)
  pub routines : (p : Program) (room : ℕ) (r : Routine) (own : Option Path) (given : List Given) (line : ℕ) (s : State) → NoMore s.ticks (enter p room r own given line s)
  pub tasks : (p : Program) (task line : ℕ) (s : State) → NoMore s.ticks (run_task p task line s)

-- a step that makes no ticks
pub record Falls {A : Type 0} (m : Run A) : Type 0 where
  pub by : (line : ℕ) (s : State) → NoMore s.ticks (m line s)

-- A loop is a turn, and then the loop again.
pub record LoopsUnroll : Type 0 where
  pub first : (test : Run Bool) (body : Run Flow) → Falls test → Falls body → (line : ℕ) (s : State) → loop test body line s ≡ turn test body (loop test body) line s
  pub last : (body : Run Flow) (test : Run Bool) → Falls body → Falls test → (line : ℕ) (s : State) → loop_until body test line s ≡ turn_until body test (loop_until body test) line s

-- a cycle that faults leaves the store
abbrev pub FaultsLeave : Type 0
FaultsLeave = (p : Program) (fs : List ℕ) (task now : ℕ) (input : List ℕ) (s : Store) (f : FaultAt) → (cycle p fs task now input s).0 ≡ reply.Fault f → (cycle p fs task now input s).1 ≡ s
