use Rattle.st_unit_rules.specs.Checked.{TypedUsed, interface_meant}
use Rattle.st_unit_rules.specs.DeclarationRules.{interface_not_found}
use Rattle.check_declared_variables.proofs.variable_rules.EachLaws.{each_begun, each_next, each_least, each_trees}
use Rattle.check_classes.proofs.base_rules.UsedLaws.{interfaces_ended}
use Rattle.check_classes.proofs.base_rules.used.check_interfaces.Goals as goal

pub loop-used-init : goal.loop-used-init
loop-used-init c =
    each_begun (TypedUsed (interface_meant c.args.classes.now.decls)) (interface_not_found c.args.classes.now.decls) c.args.names.now _ _ c.no_interfaces-so_far.ensures.least c.no_interfaces-so_far.ensures.interfaces

pub loop-used-preserved : goal.loop-used-preserved
loop-used-preserved c =
    each_next (TypedUsed (interface_meant c.args.classes.now.decls)) (interface_not_found c.args.classes.now.decls) c.args.names.now _ _ _ _ _ _ _ _ c.loop-used-test.true c.used-item.is c.in_ok-so_far.ensures.least
    c.in_ok-one.ensures.least c.in_ok-one.ensures.tree c.in_ok-so_far.ensures.interfaces c.loop-used.invariant

pub returns : goal.returns
returns c =
    interfaces_ended _ _ _ (each_least (TypedUsed (interface_meant c.args.classes.now.decls)) (interface_not_found c.args.classes.now.decls) c.args.names.now _ _ _ c.loop-used-test.false c.loop-used.invariant)
    (each_trees (TypedUsed (interface_meant c.args.classes.now.decls)) (interface_not_found c.args.classes.now.decls) c.args.names.now _ _ _ c.loop-used-test.false c.loop-used.invariant)
