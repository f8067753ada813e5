use Rattle.std.proofs.Common.{map}
use Rattle.st_values.specs.View.{program_of}
use Rattle.reference_plays.specs.Controller.{gone_of}
use Rattle.reference_plays.proofs.GoneLaws.{RemovedLeft}
use Rattle.reference_plays.proofs.gone.push_all_removed.Given as goal

abbrev pub invariant-loop-task : goal.invariant-loop-task
invariant-loop-task l = RemovedLeft l.version (program_of l.next) l.tasks (map gone_of l.fn.out.items) l.task-index (map gone_of l.out.items)
