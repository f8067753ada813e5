use Rattle.check_signatures.proofs.unit_signatures.RoutineLaws.{classes_begun, classes_next, classes_ended}
use Rattle.check_signatures.proofs.unit_signatures.classes.class_signatures.Goals as goal

pub loop-decl-init : goal.loop-decl-init
loop-decl-init c = classes_begun c.args.weighed.now _ _ _ c.new-list.ensures

pub loop-decl-preserved : goal.loop-decl-preserved
loop-decl-preserved c = classes_next c.args.weighed.now _ _ _ c.args.decls.now c.loop-decl.decl-index _ _ c.decl-item.result _ _ c.loop-decl-test.true c.decl-item.is c.loop-decl.invariant c.in_ok-number.ensures

pub returns : goal.returns
returns c = classes_ended c.args.weighed.now _ _ c.args.decls.now c.loop-decl.decl-index _ _ c.loop-decl-test.false c.loop-decl.invariant
