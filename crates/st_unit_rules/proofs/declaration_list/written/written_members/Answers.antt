use Rattle.std.proofs.Common.{◌+◌, drop, map, refl}
use Rattle.st_rules.proofs.ListLaws.{left_next, left_end}
use Rattle.st_unit_rules.specs.declared_names.Variables.{sections_in}
use Rattle.st_unit_rules.specs.declaration_list.Written.{global_of, names_in_sections}
use Rattle.st_unit_rules.proofs.declaration_list.GlobalLaws.{member_first, members_ended}
use Rattle.st_unit_rules.proofs.declaration_list.written.written_members.Goals as goal

pub loop-member-preserved : goal.loop-member-preserved
loop-member-preserved c =
    left_next (λ ms. names_in_sections (sections_in ms)) c.args.members.now c.loop-member.member-index c.member-item.result (map global_of c.loop-member.list.items) _ _ _
    c.loop-member-test.true c.member-item.is (member_first c.member-item.result (drop (c.loop-member.member-index + 1) c.args.members.now)) c.in_ok-add_member.ensures c.loop-member.invariant

pub returns-clause-names : goal.returns-clause-names
returns-clause-names c =
    left_end (λ ms. names_in_sections (sections_in ms)) c.args.members.now c.loop-member.member-index (map global_of c.loop-member.list.items) _ refl c.loop-member-test.false c.loop-member.invariant

pub returns-clause-written : goal.returns-clause-written
returns-clause-written c = members_ended _ c.args.members.now c.loop-member.member-index c.loop-member-test.false c.loop-member.invariant
