use Rattle.std.proofs.Common.{◌≡◌, ◌++◌, length, reverse}
use Rattle.call_frames.proofs.opening.reversed.Given as goal

-- what was taken, and what is left the other way round, is the whole
abbrev pub invariant-loop-last : goal.invariant-loop-last
invariant-loop-last l = l.turned ++ reverse l.given ≡ reverse l.fn.given

abbrev pub decreases-loop-last : goal.decreases-loop-last
decreases-loop-last l = length l.given
