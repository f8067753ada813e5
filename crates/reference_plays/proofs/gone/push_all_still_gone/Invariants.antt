use Rattle.std.proofs.Common.{map}
use Rattle.st_values.specs.View.{program_of}
use Rattle.reference_plays.specs.Controller.{gone_of}
use Rattle.reference_plays.proofs.GoneLaws.{GoneLeft}
use Rattle.reference_plays.proofs.gone.push_all_still_gone.Given as goal

abbrev pub invariant-loop-task : goal.invariant-loop-task
invariant-loop-task l = GoneLeft (program_of l.next) l.gone (map gone_of l.fn.out.items) l.task-index (map gone_of l.out.items)
