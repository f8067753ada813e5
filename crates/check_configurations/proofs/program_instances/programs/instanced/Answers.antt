use Rattle.std.proofs.Common.{◌∙◌}
use Rattle.check_configurations.proofs.program_instances.ProgramLaws.{instanced_is}
use Rattle.check_configurations.proofs.program_instances.programs.instanced.Goals as goal

pub returns : goal.returns
returns c =
    instanced_is c.args.tables.now.decls c.args.program.now c.sizes.result.now c.as_slice.result.now c.program_values-values.result c.as_slice-sections.result c.sizes.ensures
    (c.as_slice.ensures ∙ c.in_ok-locals.ensures) c.program_values-values.ensures c.as_slice-sections.ensures
