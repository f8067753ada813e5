use Rattle.declared_graph.specs.Private.Known.{declared}
use Rattle.declared_graph.specs.Private.Contained.{name_places}
use Rattle.declared_graph.proofs.LoopLaws.{NodeEdgesTo}
use Rattle.declared_graph.proofs.contained.add_names.Given as goal

abbrev pub invariant-loop-name : goal.invariant-loop-name
invariant-loop-name l = NodeEdgesTo (name_places (declared l.known)) l.from l.names l.initial.edges.items l.edges.items l.name-index
