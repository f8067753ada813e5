use Rattle.std.proofs.Common.{length}
use Rattle.check_limits.specs.base_limits.Private.Ways.{goes_on}
use Rattle.check_limits.proofs.base_limits.WayLaws.{Marks}
use Rattle.check_limits.proofs.base_limits.ways.one_step_more.Given as goal

abbrev pub invariant-edges : goal.invariant-edges
invariant-edges l = Marks (length l.marks) (goes_on l.marks l.cycles) l.edges l.left l.next.items

abbrev pub decreases-edges : goal.decreases-edges
decreases-edges l = length l.left
