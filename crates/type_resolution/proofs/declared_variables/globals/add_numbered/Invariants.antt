use Rattle.type_resolution.proofs.declared_variables.NumberLaws.{GlobalsTo}
use Rattle.type_resolution.proofs.declared_variables.globals.add_numbered.Given as goal

abbrev pub invariant-loop-name : goal.invariant-loop-name
invariant-loop-name l = GlobalsTo l.names l.fn.list l.list l.first l.region l.name-index
