use Rattle.std.proofs.Common.{ap, ◌∙◌}
use Rattle.check_names.specs.name_spaces.NamesIn.{names_of}
use Rattle.check_configurations.proofs.program_instances.programs.UnitPrograms.names.Goals as goal

pub returns : goal.returns
returns c = λ decls h. ap names_of c.as_slice.ensures.value ∙ h.all.names-are
