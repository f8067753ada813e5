use Rattle.std.proofs.Common.{◌≡◌, length}
use Rattle.value_trees.specs.Value.{members_of}
use Rattle.run_state.specs.State.{unwind}
use Rattle.run_state.proofs.log.take_back.Given as goal

-- what is left to be put back leads to the same store
abbrev pub invariant-loop-last : goal.invariant-loop-last
invariant-loop-last l = unwind l.replaced (members_of l.store) ≡ unwind l.fn.replaced (members_of l.fn.store)

abbrev pub decreases-loop-last : goal.decreases-loop-last
decreases-loop-last l = length l.replaced
