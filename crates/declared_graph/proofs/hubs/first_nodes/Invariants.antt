use Rattle.declared_graph.proofs.LoopLaws.{FirstsTo}
use Rattle.declared_graph.proofs.hubs.first_nodes.Given as goal

abbrev pub invariant-loop-i : goal.invariant-loop-i
invariant-loop-i l = FirstsTo l.flags l.nodes.items l.hub l.i
