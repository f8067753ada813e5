use Rattle.declared_graph.specs.Private.Inner.{needed_of}
use Rattle.declared_graph.proofs.LoopLaws.{EdgesTo}
use Rattle.declared_graph.proofs.inner.add_all_needed.Given as goal

abbrev pub invariant-loop-i : goal.invariant-loop-i
invariant-loop-i l = EdgesTo (needed_of l.table) l.names l.count l.initial.edges.items l.edges.items l.i
