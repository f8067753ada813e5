use Rattle.std.proofs.Common.{length}
use Rattle.run_state.specs.State.{state_of}
use Rattle.call_steps.proofs.SameLaws.{SameLeft}
use Rattle.call_steps.proofs.given.same_in_outs.Given as goal

abbrev pub invariant-parameters : goal.invariant-parameters
invariant-parameters l = SameLeft l.parameters l.left l.line (state_of l.m) l.given

abbrev pub decreases-parameters : goal.decreases-parameters
decreases-parameters l = length l.left
