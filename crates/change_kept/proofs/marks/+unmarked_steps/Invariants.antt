use Rattle.std.proofs.Common.{length}
use Rattle.change_kept.proofs.marks.+unmarked_steps.Given as goal

abbrev pub decreases-unmarked_steps : goal.decreases-unmarked_steps
decreases-unmarked_steps l = length l.steps.now
