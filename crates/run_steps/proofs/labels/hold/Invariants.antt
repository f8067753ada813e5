use Rattle.std.proofs.Common.{◌≡◌, length}
use Rattle.st_meaning.specs.Statement.{hold}
use Rattle.run_steps.proofs.labels.hold.Given as goal

-- what is left decides
abbrev pub invariant-loop-label : goal.invariant-loop-label
invariant-loop-label l = hold l.left l.z ≡ hold l.labels l.z

abbrev pub decreases-loop-label : goal.decreases-loop-label
decreases-loop-label l = length l.left
