use Rattle.check_classes.proofs.class_limit_rules.CountLaws.{methods_begun, methods_next, methods_ended}
use Rattle.check_classes.proofs.class_limit_rules.counts.count_methods.Goals as goal

pub loop-member-init : goal.loop-member-init
loop-member-init c = methods_begun c.args.members.now

pub loop-member-preserved : goal.loop-member-preserved
loop-member-preserved c = methods_next c.args.members.now _ _ _ _ c.loop-member-test.true c.member-item.is c.in_ok-count.ensures c.loop-member.invariant

pub returns : goal.returns
returns c = methods_ended c.args.members.now _ _ c.loop-member-test.false c.loop-member.invariant
