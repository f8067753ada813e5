use Rattle.std.proofs.Common.{◌∷◌, [], ◌+◌, drop, refl}
use Rattle.st_rules.proofs.ListLaws.{left_next, left_end}
use Rattle.st_unit_rules.specs.NameRules.{member_names}
use Rattle.check_names.proofs.name_spaces.NameLaws.{member_next}
use Rattle.check_names.specs.name_spaces.NamesIn.{names_of}
use Rattle.check_names.proofs.name_spaces.names_in.member_names.Goals as goal

pub loop-member-preserved : goal.loop-member-preserved
loop-member-preserved c =
    left_next (member_names) c.args.members.now c.loop-member.member-index c.member-item.result (names_of c.loop-member.list.items) _ (member_names (c.member-item.result ∷ [])) _
    c.loop-member-test.true c.member-item.is (member_next c.member-item.result (drop (c.loop-member.member-index + 1) c.args.members.now)) c.in_ok-add_member.ensures c.loop-member.invariant

pub returns : goal.returns
returns c = left_end (member_names) c.args.members.now c.loop-member.member-index (names_of c.loop-member.list.items) _ refl c.loop-member-test.false c.loop-member.invariant
