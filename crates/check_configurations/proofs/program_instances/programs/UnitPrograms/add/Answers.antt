use Rattle.std.proofs.Common.{◌∙◌}
use Rattle.check_configurations.proofs.program_instances.ProgramLaws.{has_more}
use Rattle.check_configurations.proofs.program_instances.programs.UnitPrograms.add.Goals as goal

pub returns : goal.returns
returns c =
    has_more c.args.self.now _ c.args.tables.now.decls c.args.program.now c.in_ok-instanced.instanced c.in_ok-place.place (c.in_ok-place.ensures ∙ c.len.ensures ∙ c.args.self.now.programs.ok.0) c.in_ok-note.ensures c.in_ok-instanced.ensures c.in_ok-push.ensures.items
    c.in_ok-add_name.ensures
