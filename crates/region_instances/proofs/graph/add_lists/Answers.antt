use Rattle.st_rules.proofs.ListLaws.{mapped_next, mapped_end}
use Rattle.region_instances.specs.Private.Graph.{nodes_in}
use Rattle.region_instances.proofs.graph.add_lists.Goals as goal

pub loop-variables-preserved : goal.loop-variables-preserved
loop-variables-preserved c = mapped_next (nodes_in c.args.counts) c.args.members.now c.loop-variables.variables-index c.variables-item.result c.loop-variables.lists.items _ _ _ c.loop-variables-test.true c.variables-item.is c.in_ok-push.ensures.items (rw c.as_slice.ensures at c.in_ok-list.ensures) c.loop-variables.invariant

pub returns : goal.returns
returns c = mapped_end (nodes_in c.args.counts) c.args.members.now c.loop-variables.variables-index c.loop-variables.lists.items _ c.loop-variables-test.false c.loop-variables.invariant
