use Rattle.std.proofs.Common.{[]}
use Rattle.declared_graph.specs.Private.Shared.{hub_of}
use Rattle.declared_graph.proofs.LoopLaws.{EdgesTo}
use Rattle.declared_graph.proofs.hubs.edges_to_hubs.Given as goal

abbrev pub invariant-loop-i : goal.invariant-loop-i
invariant-loop-i l = EdgesTo (hub_of l.count) l.nodes 0 [] l.edges.items l.i
