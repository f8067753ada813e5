use Rattle.graph_reach.proofs.ReachLaws.{Started}
use Rattle.graph_reach.proofs.reach.start.Given as goal

abbrev pub invariant-loop-node : goal.invariant-loop-node
invariant-loop-node l = Started l.rows.items l.node l.columns l.words
