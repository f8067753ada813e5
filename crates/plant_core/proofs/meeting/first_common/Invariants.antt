use Rattle.std.proofs.Common.{length}
use Rattle.plant_core.proofs.Meetings.{Meeting}
use Rattle.plant_core.proofs.meeting.first_common.Given as goal

abbrev pub invariant-regions : goal.invariant-regions
invariant-regions l = Meeting l.one l.other l.left l.others

abbrev pub decreases-regions : goal.decreases-regions
decreases-regions l = length l.left
