use Rattle.std.proofs.Common.{◌≡◌, length}
use Rattle.undo_image.specs.Undoable.{bytes_in, committed_in}
use Rattle.task_ports.proofs.PortLaws.{Latching}
use Rattle.task_ports.proofs.inputs.latch.Given as goal

abbrev pub invariant-ports : goal.invariant-ports
invariant-ports l = Latching l.input l.fn.inputs (bytes_in l.fn.regions) l.left (bytes_in l.regions) (committed_in l.regions) × (committed_in l.regions ≡ committed_in l.fn.regions)

abbrev pub decreases-ports : goal.decreases-ports
decreases-ports l = length l.left
