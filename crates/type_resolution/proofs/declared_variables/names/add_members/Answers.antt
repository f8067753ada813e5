use Rattle.std.proofs.Common.{◌∷◌, [], ◌+◌, map, drop, refl}
use Rattle.std.specs.Prelude.{flat_map}
use Rattle.st_rules.proofs.ListLaws.{left_next, left_end}
use Rattle.st_unit_rules.specs.declared_names.Variables.{sections_in}
use Rattle.type_resolution.specs.declared_variables.Private.Told.{told_as, names_of_section}
use Rattle.type_resolution.proofs.declared_variables.NameLaws.{members_split}
use Rattle.type_resolution.proofs.declared_variables.names.add_members.Goals as goal

pub loop-member-preserved : goal.loop-member-preserved
loop-member-preserved c =
    left_next (λ ms. flat_map (names_of_section c.args.s.now) (sections_in ms)) c.args.members.now c.loop-member.member-index c.member-item.result (map told_as c.loop-member.list.items) _ (flat_map (names_of_section c.args.s.now) (sections_in (c.member-item.result ∷ []))) _
    c.loop-member-test.true c.member-item.is (members_split c.args.s.now c.member-item.result (drop (c.loop-member.member-index + 1) c.args.members.now)) c.in_ok-add_member.ensures c.loop-member.invariant

pub returns : goal.returns
returns c = left_end (λ ms. flat_map (names_of_section c.args.s.now) (sections_in ms)) c.args.members.now c.loop-member.member-index (map told_as c.loop-member.list.items) _ refl c.loop-member-test.false c.loop-member.invariant
