use Rattle.std.proofs.Common.{length}
use Rattle.undo_image.specs.Undoable.{bytes_in, committed_in}
use Rattle.task_ports.proofs.SumLaws.{Summing}
use Rattle.task_ports.proofs.outputs.collect.Given as goal

abbrev pub invariant-ports : goal.invariant-ports
invariant-ports l = Summing (bytes_in l.regions) (committed_in l.regions) l.fn.outputs l.left l.end l.bytes

abbrev pub decreases-ports : goal.decreases-ports
decreases-ports l = length l.left
