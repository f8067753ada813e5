use Rattle.st_rules.proofs.ListLaws.{mapped_next, mapped_end}
use Rattle.region_instances.specs.Private.Instances.{region_node}
use Rattle.region_instances.proofs.instances.region_nodes.Goals as goal

pub loop-region-preserved : goal.loop-region-preserved
loop-region-preserved c = mapped_next (region_node c.args.counts) c.args.regions.now c.loop-region.region-index c.region-item.result c.loop-region.nodes _ _ _ c.loop-region-test.true c.region-item.is c.in_ok-push.ensures.ok c.node_of.ensures c.loop-region.invariant

pub returns : goal.returns
returns c = mapped_end (region_node c.args.counts) c.args.regions.now c.loop-region.region-index c.loop-region.nodes _ c.loop-region-test.false c.loop-region.invariant
