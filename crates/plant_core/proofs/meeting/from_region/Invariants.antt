use Rattle.std.proofs.Common.{length}
use Rattle.plant_core.proofs.Meetings.{Going}
use Rattle.plant_core.proofs.meeting.from_region.Given as goal

abbrev pub invariant-regions : goal.invariant-regions
invariant-regions l = Going l.regions l.region l.left

abbrev pub decreases-regions : goal.decreases-regions
decreases-regions l = length l.left
