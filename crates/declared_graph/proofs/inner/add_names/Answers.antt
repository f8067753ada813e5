use Rattle.declared_graph.specs.Private.Inner.{found_for_lent}
use Rattle.declared_graph.proofs.LoopLaws.{node_next, node_ended}
use Rattle.declared_graph.proofs.inner.add_names.Goals as goal

pub loop-named-preserved : goal.loop-named-preserved
loop-named-preserved c =
    node_next (found_for_lent c.args.table.now) c.args.from c.args.names.now _ c.loop-named.edges.items _ c.loop-named.named-index c.named-item.result c.loop-named-test.true c.named-item.is c.in_ok-add_named.ensures c.loop-named.invariant

pub returns : goal.returns
returns c = node_ended (found_for_lent c.args.table.now) c.args.from c.args.names.now _ c.loop-named.edges.items c.loop-named.named-index c.loop-named-test.false c.loop-named.invariant
