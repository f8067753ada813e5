use Rattle.declared_graph.specs.Private.Inner.{found_for_lent}
use Rattle.declared_graph.proofs.LoopLaws.{NodeEdgesTo}
use Rattle.declared_graph.proofs.inner.add_names.Given as goal

abbrev pub invariant-loop-named : goal.invariant-loop-named
invariant-loop-named l = NodeEdgesTo (found_for_lent l.table) l.from l.names l.initial.edges.items l.edges.items l.named-index
