use Rattle.std.proofs.Common.{refl}
use Rattle.class_tables.proofs.ClimbLaws.{get_or-self}
use Rattle.check_classes.proofs.class_limit_rules.CountLaws.{values_begun, values_next, values_ended}
use Rattle.check_classes.proofs.class_limit_rules.counts.body_values.Goals as goal

pub loop-class-init : goal.loop-class-init
loop-class-init c = values_begun c.args.s.now c.args.chain.now refl

pub loop-class-preserved : goal.loop-class-preserved
loop-class-preserved c = values_next c.args.s.now c.args.chain.now _ _ _ _ c.loop-class-test.true (get_or-self c.args.chain.now c.loop-class.class-index 0) c.add_class-sum.ensures c.loop-class.invariant

pub returns : goal.returns
returns c = values_ended c.args.s.now c.args.chain.now _ _ c.loop-class-test.false c.loop-class.invariant
