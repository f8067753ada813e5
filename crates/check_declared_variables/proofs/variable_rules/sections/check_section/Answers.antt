use Rattle.std.proofs.Common.{◌∙◌}
use Rattle.check_declared_variables.proofs.variable_rules.SectionLaws.{section_checks}
use Rattle.check_declared_variables.proofs.variable_rules.sections.check_section.Goals as goal

pub returns : goal.returns
returns c = section_checks _ _ _ _ _ _ _ _ (c.in_ok-modifiers.ensures ∙ c.as_slice.ensures) c.heading_fault-heading.ensures c.as_slice-items.ensures c.in_ok-found.ensures c.section_of.ensures
