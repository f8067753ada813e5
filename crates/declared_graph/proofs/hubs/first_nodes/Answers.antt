use Rattle.std.proofs.Common.{false, get_or}
use Rattle.std.proofs.lemmas.List.{get_or_default}
use Rattle.declared_graph.proofs.LoopLaws.{firsts_next, firsts_ended}
use Rattle.declared_graph.proofs.hubs.first_nodes.Goals as goal

pub loop-i-preserved : goal.loop-i-preserved
loop-i-preserved c =
    let flags = c.args.flags.now in
    let i = c.loop-i.i in
    let first = get_or flags i false in
    firsts_next flags c.loop-i.nodes.items _ c.loop-i.hub i c.next_hub-hub.result first c.loop-i-test.true (get_or_default flags i false first c.loop-i-test.true) c.next_hub-hub.ensures c.in_ok-push.ensures.items c.loop-i.invariant

pub returns : goal.returns
returns c = firsts_ended c.args.flags.now c.loop-i.nodes.items c.loop-i.hub c.loop-i.i c.loop-i-test.false c.loop-i.invariant
