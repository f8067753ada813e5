use Rattle.check_signatures.specs.unit_signatures.Private.Parameters.{AreWeighed}
use Rattle.check_signatures.specs.unit_signatures.Private.Routines.{signature_tells}
use Rattle.check_signatures.proofs.unit_signatures.AddLaws.{adds_begun}
use Rattle.check_signatures.proofs.unit_signatures.RoutineLaws.{prototypes_next, prototypes_ended}
use Rattle.check_signatures.proofs.unit_signatures.interfaces.prototypes.Goals as goal

pub loop-method-init : goal.loop-method-init
loop-method-init c = adds_begun signature_tells (AreWeighed c.args.weighed.now) _ _ c.new-list.ensures

pub loop-method-preserved : goal.loop-method-preserved
loop-method-preserved c = prototypes_next c.args.weighed.now c.args.methods.now _ _ _ _ _ c.loop-method.method-index c.method-item.result c.loop-method-test.true c.method-item.is c.loop-method.invariant c.in_ok-add_prototype.ensures

pub returns : goal.returns
returns c = prototypes_ended c.args.weighed.now c.args.methods.now _ _ _ c.loop-method.method-index c.loop-method-test.false c.loop-method.invariant
