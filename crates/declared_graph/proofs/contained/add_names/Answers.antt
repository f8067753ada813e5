use Rattle.declared_graph.specs.Private.Known.{declared}
use Rattle.declared_graph.specs.Private.Contained.{name_places}
use Rattle.declared_graph.proofs.LoopLaws.{node_next, node_ended}
use Rattle.declared_graph.proofs.contained.add_names.Goals as goal

pub loop-name-preserved : goal.loop-name-preserved
loop-name-preserved c =
    node_next (name_places (declared c.args.known.now)) c.args.from c.args.names.now _ c.loop-name.edges.items _ c.loop-name.name-index c.name-item.result c.loop-name-test.true c.name-item.is c.in_ok-add_name.ensures c.loop-name.invariant

pub returns : goal.returns
returns c = node_ended (name_places (declared c.args.known.now)) c.args.from c.args.names.now _ c.loop-name.edges.items c.loop-name.name-index c.loop-name-test.false c.loop-name.invariant
