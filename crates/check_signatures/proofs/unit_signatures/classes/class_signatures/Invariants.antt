use Rattle.check_signatures.proofs.unit_signatures.RoutineLaws.{ClassesTo}
use Rattle.check_signatures.proofs.unit_signatures.classes.class_signatures.Given as goal

abbrev pub invariant-loop-decl : goal.invariant-loop-decl
invariant-loop-decl l = ClassesTo l.weighed l.initial.table l.table l.decls l.decl-index l.number l.list
