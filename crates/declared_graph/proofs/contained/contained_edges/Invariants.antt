use Rattle.std.proofs.Common.{[]}
use Rattle.declared_graph.specs.Private.Known.{declared}
use Rattle.declared_graph.specs.Private.Contained.{contained_of}
use Rattle.declared_graph.proofs.LoopLaws.{EdgesTo}
use Rattle.declared_graph.proofs.contained.contained_edges.Given as goal

abbrev pub invariant-loop-i : goal.invariant-loop-i
invariant-loop-i l = EdgesTo (contained_of (declared l.known)) l.known.list.now 0 [] l.edges.items l.i
