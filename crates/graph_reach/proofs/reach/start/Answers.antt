use Rattle.graph_reach.proofs.ReachLaws.{started_next}
use Rattle.graph_reach.proofs.reach.start.Goals as goal

pub loop-node-preserved : goal.loop-node-preserved
loop-node-preserved c = started_next _ _ _ _ _ _ c.in_ok-push.ensures.items c.loop-node.invariant c.in_ok-row.ensures.long c.in_ok-row.ensures.bits
