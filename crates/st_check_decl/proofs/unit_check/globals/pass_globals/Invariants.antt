use Rattle.st_check_decl.proofs.unit_check.GlobalLaws.{NamesWent}
use Rattle.st_check_decl.proofs.unit_check.globals.pass_globals.Given as goal

abbrev pub invariant-loop-name : goal.invariant-loop-name
invariant-loop-name l = NamesWent l.graph.decls l.initial.x l.faults l.names l.x l.left l.name-index
