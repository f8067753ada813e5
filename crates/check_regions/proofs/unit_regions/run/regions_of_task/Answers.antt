use Rattle.check_regions.proofs.unit_regions.RunLaws.{stepped, ended}
use Rattle.check_regions.proofs.unit_regions.run.regions_of_task.Goals as goal

pub loop-region-preserved : goal.loop-region-preserved
loop-region-preserved c =
    stepped c.args.task.now c.args.regions.now c.loop-region.numbers c.loop-region.number c.loop-region.region-index c.region-item.result c.loop-region-test.true c.region-item.is
    c.loop-region.invariant c.add_run.new.numbers c.in_ok-number.number c.is_run-run.result c.is_run-run.ensures c.in_ok-add_run.ensures c.in_ok-number.ensures

pub returns : goal.returns
returns c = ended c.args.task.now c.args.regions.now c.loop-region.numbers c.loop-region.number c.loop-region.region-index c.loop-region-test.false c.loop-region.invariant
