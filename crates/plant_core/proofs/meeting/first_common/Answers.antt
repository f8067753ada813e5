use Rattle.plant_core.proofs.Meetings.{looking_of, looking_next}
use Rattle.plant_core.proofs.meeting.first_common.Goals as goal

pub regions-preserved : goal.regions-preserved
regions-preserved c =
    looking_next c.args.one.now c.args.other.now c.in-Some.behind.now c.from_region-others.result.now c.in-Some-split_first.field-0-1.now _ _ c.in-Some-split_first.ensures.cases.0 c.if-other_first-first.false
    (looking_of c.args.one.now c.args.other.now c.regions.left.now c.in-Some.behind.now c.regions.others.now c.from_region-others.result.now _ c.in-Some.ensures.cases.0 c.from_region-others.ensures c.regions.invariant)
