use Rattle.check_signatures.specs.unit_signatures.Private.Parameters.{AreWeighed}
use Rattle.check_signatures.specs.unit_signatures.Private.Routines.{signature_tells}
use Rattle.check_signatures.proofs.unit_signatures.AddLaws.{adds_begun}
use Rattle.check_signatures.proofs.unit_signatures.RoutineLaws.{members_next, members_ended}
use Rattle.check_signatures.proofs.unit_signatures.classes.methods.Goals as goal

pub loop-member-init : goal.loop-member-init
loop-member-init c = adds_begun signature_tells (AreWeighed c.args.weighed.now) _ _ c.new-list.ensures

pub loop-member-preserved : goal.loop-member-preserved
loop-member-preserved c =
    members_next c.args.weighed.now c.args.class c.args.members.now _ _ _ _ _ c.loop-member.member-index c.member-item.result c.loop-member-test.true c.member-item.is c.loop-member.invariant c.in_ok-add_member.ensures

pub returns : goal.returns
returns c = members_ended c.args.weighed.now c.args.class c.args.members.now _ _ _ c.loop-member.member-index c.loop-member-test.false c.loop-member.invariant
