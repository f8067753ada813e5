use Rattle.declared_graph.specs.Private.Known.{declared}
use Rattle.declared_graph.specs.Private.Needed.{needed_of}
use Rattle.declared_graph.proofs.LoopLaws.{EdgesTo}
use Rattle.declared_graph.proofs.needed.add_all_needed.Given as goal

abbrev pub invariant-loop-i : goal.invariant-loop-i
invariant-loop-i l = EdgesTo (needed_of (declared l.known)) l.known.list.now l.count l.initial.edges.items l.edges.items l.i
