use Rattle.symbol_table.proofs.unit_names.ClassLaws.{ClassesTo}
use Rattle.symbol_table.proofs.unit_names.classes.declared_classes.Given as goal

abbrev pub invariant-loop-decl : goal.invariant-loop-decl
invariant-loop-decl l = ClassesTo l.known l.decls l.list l.number l.decl-index
