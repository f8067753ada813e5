use Rattle.declared_graph.specs.Private.Known.{declared}
use Rattle.declared_graph.specs.Private.Contained.{group_places}
use Rattle.declared_graph.proofs.LoopLaws.{NodeEdgesTo}
use Rattle.declared_graph.proofs.contained.add_groups.Given as goal

abbrev pub invariant-loop-group : goal.invariant-loop-group
invariant-loop-group l = NodeEdgesTo (group_places (declared l.known)) l.from l.groups l.initial.edges.items l.edges.items l.group-index
