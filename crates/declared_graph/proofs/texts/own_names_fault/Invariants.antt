use Rattle.declared_graph.proofs.OwnLaws.{OwnTo}
use Rattle.declared_graph.proofs.texts.own_names_fault.Given as goal

abbrev pub invariant-loop-named : goal.invariant-loop-named
invariant-loop-named l = OwnTo l.name l.names l.found l.named-index
