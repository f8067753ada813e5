use Rattle.std.proofs.Common.{◌∙◌}
use Rattle.st_values.specs.View.{program_of}
use Rattle.change_carry.proofs.PartLaws.{structure_known}
use Rattle.change_carry.proofs.parts.structure_names.Goals as goal

pub returns : goal.returns
returns c =
    structure_known (program_of c.args.c.now.old.program.now) c.args.c.now.new.program.now c.table_at.result c.deref.result.now c.args.number c.in-Some.decl.now c.args.name.now (c.deref.ensures.value ∙ c.requires.names.structures) c.in-Some.ensures.value c.if-ne.ensures c.table_at.ensures
