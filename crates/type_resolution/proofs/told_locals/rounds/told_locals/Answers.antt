use Rattle.std.proofs.Common.{map, ap, ◌∙◌}
use Rattle.st_unit_rules.specs.declaration_list.Written.{global_of, names_in_sections}
use Rattle.type_resolution.proofs.told_locals.rounds.told_locals.Goals as goal

pub told_in_order-requires-clause-names : goal.told_in_order-requires-clause-names
told_in_order-requires-clause-names c = ap (map global_of) c.deref.ensures.value ∙ c.in_ok-names.ensures.names ∙ ap names_in_sections c.sections_of.ensures
