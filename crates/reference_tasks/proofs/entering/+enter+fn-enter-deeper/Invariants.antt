use Rattle.std.proofs.Common.{◌+◌, ◌*◌}
use Rattle.reference_tasks.proofs.entering.+enter+fn-enter-deeper.Given as goal

abbrev pub decreases-enter : goal.decreases-enter
decreases-enter l = 2 * l.room + 1

abbrev pub decreases-deeper : goal.decreases-deeper
decreases-deeper l = 2 * l.below + 2
