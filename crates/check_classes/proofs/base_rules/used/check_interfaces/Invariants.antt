use Rattle.st_unit_rules.specs.Checked.{TypedUsed, interface_meant}
use Rattle.st_unit_rules.specs.DeclarationRules.{interface_not_found}
use Rattle.check_declared_variables.proofs.variable_rules.EachLaws.{EachTo}
use Rattle.check_classes.proofs.base_rules.used.check_interfaces.Given as goal

abbrev pub invariant-loop-used : goal.invariant-loop-used
invariant-loop-used l = EachTo (TypedUsed (interface_meant l.classes.decls)) (interface_not_found l.classes.decls) l.so_far.least l.so_far.interfaces l.names l.used-index
