use Rattle.std.proofs.Common.{refl}
use Rattle.check_signatures.specs.unit_signatures.Private.Parameters.{AreWeighed, parameter_tells, item_parameters}
use Rattle.check_signatures.proofs.unit_signatures.AddLaws.{adds_none, adds_next, adds_ended}
use Rattle.check_signatures.proofs.unit_signatures.ParameterLaws.{weighed_stay, parameter_stays}
use Rattle.check_signatures.proofs.unit_signatures.parameters.add_items.Goals as goal

pub loop-item-init : goal.loop-item-init
loop-item-init c = adds_none parameter_tells (AreWeighed c.args.weighed.now) _ _ _ refl

pub loop-item-preserved : goal.loop-item-preserved
loop-item-preserved c =
    adds_next parameter_tells (AreWeighed c.args.weighed.now) (weighed_stay c.args.weighed.now) parameter_stays (item_parameters c.args.weighed.now c.args.s.now c.args.sort) c.args.items.now _ _ _ _ _ _ c.loop-item.item-index c.item-item.result c.loop-item-test.true c.item-item.is
    c.loop-item.invariant c.in_ok-add_item.ensures

pub returns : goal.returns
returns c =
    adds_ended parameter_tells (AreWeighed c.args.weighed.now) (weighed_stay c.args.weighed.now) parameter_stays (item_parameters c.args.weighed.now c.args.s.now c.args.sort) c.args.items.now _ _ _ _ c.loop-item.item-index c.loop-item-test.false c.loop-item.invariant
