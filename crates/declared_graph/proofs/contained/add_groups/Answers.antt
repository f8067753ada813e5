use Rattle.declared_graph.specs.Private.Known.{declared}
use Rattle.declared_graph.specs.Private.Contained.{group_places}
use Rattle.declared_graph.proofs.LoopLaws.{node_next, node_ended}
use Rattle.declared_graph.proofs.contained.add_groups.Goals as goal

pub loop-group-preserved : goal.loop-group-preserved
loop-group-preserved c =
    node_next (group_places (declared c.args.known.now)) c.args.from c.args.groups.now _ c.loop-group.edges.items _ c.loop-group.group-index c.group-item.result c.loop-group-test.true c.group-item.is c.in_ok-add_element.ensures c.loop-group.invariant

pub returns : goal.returns
returns c = node_ended (group_places (declared c.args.known.now)) c.args.from c.args.groups.now _ c.loop-group.edges.items c.loop-group.group-index c.loop-group-test.false c.loop-group.invariant
