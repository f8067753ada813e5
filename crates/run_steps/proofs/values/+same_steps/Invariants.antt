use Rattle.std.proofs.Common.{length}
use Rattle.run_steps.proofs.values.+same_steps.Given as goal

abbrev pub decreases-same_steps : goal.decreases-same_steps
decreases-same_steps l = length l.a.now
