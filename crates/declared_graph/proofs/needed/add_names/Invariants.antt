use Rattle.declared_graph.specs.Private.Known.{declared}
use Rattle.declared_graph.specs.Private.Needed.{needed_for_lent}
use Rattle.declared_graph.proofs.LoopLaws.{NodeEdgesTo}
use Rattle.declared_graph.proofs.needed.add_names.Given as goal

abbrev pub invariant-loop-named : goal.invariant-loop-named
invariant-loop-named l = NodeEdgesTo (needed_for_lent (declared l.known)) l.from l.names l.initial.edges.items l.edges.items l.named-index
