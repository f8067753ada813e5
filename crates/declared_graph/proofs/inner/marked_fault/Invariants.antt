use Rattle.declared_graph.proofs.InnerLaws.{MarkedTo}
use Rattle.declared_graph.proofs.inner.marked_fault.Given as goal

abbrev pub invariant-loop-i : goal.invariant-loop-i
invariant-loop-i l = MarkedTo l.marks l.names l.found l.i
