-- A cycle of a task: inputs, its programs, outputs (IEC 61131-3:2013, 6.8.2).
use Rattle.std.specs.Prelude.{ℕ, ◌-◌, List, []}
use Rattle.cycle_journal.specs.declared.entry.CycleReply.{CycleReply}
use Rattle.cycle_journal.specs.declared.entry.CycleReply.TheVariants as reply
use Rattle.st_values.specs.Program.{Program}
use Rattle.st_values.specs.Value.{Store}
use Rattle.st_meaning.specs.State.{State, Outcome, Done, Fault}
use Rattle.st_meaning.specs.Enter.{run_task}
use Rattle.st_meaning.specs.ProcessImage.{located_of, latch, collect}

-- the ticks of a cycle, and of all hooks of a load or a change
abbrev pub all_ticks : ℕ
all_ticks = 100000

abbrev pub begun : Store → ℕ → State
begun s now = record { store = s; frames = []; ticks = all_ticks; now = now }

-- A fault leaves the store as it was.
abbrev pub ended : Program → List ℕ → Store → Outcome (Unit {0}) → CycleReply × Store
ended p fs before (Done a s) = (reply.Done (all_ticks - s.ticks) (collect (located_of p) fs s.store), s.store)
ended p fs before (Fault kind line) = (reply.Fault (record { kind = kind; line = line }), before)

-- A cycle of a task whose footprint are these regions: its reply, and the store that it leaves.
abbrev pub cycle : Program → List ℕ → ℕ → ℕ → List ℕ → Store → CycleReply × Store
cycle p fs task now input s = ended p fs s (run_task p task 0 (begun (latch (located_of p) fs input s) now))
