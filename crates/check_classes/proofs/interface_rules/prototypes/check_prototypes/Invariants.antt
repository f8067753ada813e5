use Rattle.st_unit_rules.specs.Checked.{TypedPrototype}
use Rattle.st_unit_rules.specs.DeclarationRules.{prototype_faults}
use Rattle.check_declared_variables.proofs.variable_rules.EachLaws.{EachTo}
use Rattle.check_classes.proofs.interface_rules.prototypes.check_prototypes.Given as goal

abbrev pub invariant-loop-method : goal.invariant-loop-method
invariant-loop-method l = EachTo (TypedPrototype l.tables.decls) (prototype_faults l.tables.decls) l.so_far.least l.so_far.prototypes l.methods l.method-index
