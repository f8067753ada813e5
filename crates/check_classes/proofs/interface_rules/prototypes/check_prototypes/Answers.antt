use Rattle.st_unit_rules.specs.Checked.{TypedPrototype}
use Rattle.st_unit_rules.specs.DeclarationRules.{prototype_faults}
use Rattle.check_declared_variables.proofs.variable_rules.EachLaws.{each_begun, each_next, each_least, each_trees}
use Rattle.check_classes.proofs.interface_rules.PrototypeLaws.{prototypes_ended}
use Rattle.check_classes.proofs.interface_rules.prototypes.check_prototypes.Goals as goal

pub loop-method-init : goal.loop-method-init
loop-method-init c =
    each_begun (TypedPrototype c.args.tables.now.decls) (prototype_faults c.args.tables.now.decls) c.args.methods.now _ _ c.no_prototypes-so_far.ensures.least c.no_prototypes-so_far.ensures.prototypes

pub loop-method-preserved : goal.loop-method-preserved
loop-method-preserved c =
    each_next (TypedPrototype c.args.tables.now.decls) (prototype_faults c.args.tables.now.decls) c.args.methods.now _ _ _ _ _ _ _ _ c.loop-method-test.true c.method-item.is c.in_ok-so_far.ensures.least
    c.in_ok-one.ensures.least c.in_ok-one.ensures.tree c.in_ok-so_far.ensures.prototypes c.loop-method.invariant

pub returns : goal.returns
returns c =
    prototypes_ended _ _ _ (each_least (TypedPrototype c.args.tables.now.decls) (prototype_faults c.args.tables.now.decls) c.args.methods.now _ _ _ c.loop-method-test.false c.loop-method.invariant)
    (each_trees (TypedPrototype c.args.tables.now.decls) (prototype_faults c.args.tables.now.decls) c.args.methods.now _ _ _ c.loop-method-test.false c.loop-method.invariant)
