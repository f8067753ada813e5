use Rattle.std.proofs.Common.{◌∙◌}
use Rattle.change_names.proofs.StructureLaws.{no_structure, structure_there}
use Rattle.change_names.proofs.structures.fields_named.Goals as goal

pub returns-in-Some : goal.returns-in-Some
returns-in-Some c =
    c.list_of.ensures
    ∙ structure_there c.args.side.now.program.now c.args.places.now c.requires.types c.args.name.now c.args.side.now.members.now c.in-Some.place c.requires.is_side.members c.in-Some.ensures

pub returns-in-None : goal.returns-in-None
returns-in-None c = no_structure c.args.side.now.program.now c.args.places.now c.requires.types c.args.name.now c.in-None.ensures
