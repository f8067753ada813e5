use Rattle.std.proofs.Common.{Some, None, sym, ◌∙◌}
use Rattle.st_change.specs.From.{old_name}
use Rattle.change_carry.specs.Private.Parts.{parts_of}
use Rattle.change_carry.proofs.PartLaws.{part_by_place}
use Rattle.change_carry.proofs.parts.part_before.Goals as goal

pub returns-in-Some : goal.returns-in-Some
returns-in-Some c =
    c.part_at.ensures ∙ sym (part_by_place c.args.places.now (parts_of c.args.parts.now) (old_name c.args.names.now c.args.name.now) (Some c.in-Some.place) c.requires c.in-Some.ensures)

pub returns-in-None : goal.returns-in-None
returns-in-None c = sym (part_by_place c.args.places.now (parts_of c.args.parts.now) (old_name c.args.names.now c.args.name.now) None c.requires c.in-None.ensures)
