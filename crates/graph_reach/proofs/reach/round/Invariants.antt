use Rattle.graph_reach.proofs.ReachLaws.{RoundJoined}
use Rattle.graph_reach.proofs.reach.round.Given as goal

abbrev pub invariant-loop-node : goal.invariant-loop-node
invariant-loop-node l = RoundJoined l.lists l.fn.rows.items l.rows.items l.node l.changed
