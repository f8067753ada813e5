use Rattle.plant_core.proofs.plant_moves.Places.{nothing_copied, as_long, not_away, emptied, put_over}
use Rattle.plant_core.proofs.plant_moves.moves.copy_one.Goals as goal

pub returns-in_default : goal.returns-in_default
returns-in_default c = nothing_copied c.args.from.now c.args.to.now c.args.region c.in_default.ensures

pub filled-requires : goal.filled-requires
filled-requires c = as_long c.args.from.now c.args.to.now c.args.region c.in-Some-take.image c.in-Some.source.now c.requires.same c.in-Some.ensures c.in-Some-take.ensures.image

pub put-requires : goal.put-requires
put-requires c = emptied c.args.to.now _ c.args.region c.requires.to c.take.ensures.empties

pub unreachable-requires : goal.unreachable-requires
unreachable-requires c = not_away c.args.from.now c.args.to.now c.args.region c.in-Some.source.now c.requires.same c.in-Some.ensures c.in-None.ensures.image

pub returns : goal.returns
returns c = put_over c.args.from.now c.args.to.now _ _ c.args.region c.filled.result c.in-Some.source.now c.in-Some.ensures c.take.ensures.empties c.put.ensures c.filled.ensures
