-- A cycle that faults leaves the store as it was.
use Rattle.std.proofs.Common.{◌≡◌, ℕ, List, refl}
use Rattle.plc_text.specs.declared.fault.Fault.{Fault as FaultAt}
use Rattle.cycle_journal.specs.declared.entry.CycleReply.TheVariants as reply
use Rattle.st_values.specs.Program.{Program}
use Rattle.st_values.specs.Value.{Store}
use Rattle.st_meaning.specs.State.{Outcome, Done, Fault}
use Rattle.st_meaning.specs.Enter.{run_task}
use Rattle.st_meaning.specs.ProcessImage.{located_of, latch}
use Rattle.st_meaning.specs.Cycle.{begun, ended}
use Rattle.st_meaning.specs.Laws.{FaultsLeave}

left : (p : Program) (fs : List ℕ) (s : Store) (o : Outcome (Unit {0})) (f : FaultAt) → (ended p fs s o).0 ≡ reply.Fault f → (ended p fs s o).1 ≡ s
left p fs s (Done a t) f e = cc
left p fs s (Fault kind line) f e = refl

pub faults_leave : FaultsLeave
faults_leave p fs task now input s f e = left p fs s (run_task p task 0 (begun (latch (located_of p) fs input s) now)) f e
