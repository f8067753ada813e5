use Rattle.std.proofs.Common.{ap, ◌∙◌}
use Rattle.std.specs.Prelude.{flat_map}
use Rattle.st_rules.specs.Faults.{earlier, least}
use Rattle.st_unit_rules.specs.NameRules.{local_named_as_routine}
use Rattle.check_names.proofs.name_spaces.NameLaws.{routine_next}
use Rattle.check_names.proofs.name_spaces.twice.same_name.Goals as goal

pub returns : goal.returns
returns c = λ rest. ap (λ x. earlier x (least (flat_map (local_named_as_routine c.args.routine.now) rest))) c.earlier.ensures ∙ routine_next c.args.found c.when.result c.eq.result c.args.routine.now c.args.name.now rest c.eq.ensures.value c.when.ensures
