use Rattle.std.proofs.Common.{sym}
use Rattle.change_carry.proofs.PartLaws.{part_there, no_field_there, no_member_there}
use Rattle.change_carry.proofs.parts.part_at.Goals as goal

pub returns-in_default : goal.returns-in_default
returns-in_default c = sym (no_field_there c.args.parts.now.fields.now c.args.parts.now.members.now c.args.place (sym c.in_default.ensures.value))

pub returns-in_default-get : goal.returns-in_default-get
returns-in_default-get c = sym (no_member_there c.args.parts.now.fields.now c.args.parts.now.members.now c.args.place (sym c.in_default-get.ensures.value))

pub returns : goal.returns
returns c =
    sym (part_there c.args.parts.now.fields.now c.args.parts.now.members.now c.args.place c.in-Some.field.now c.in-Some-get.member.now (sym c.in-Some.ensures.value) (sym c.in-Some-get.ensures.value))
