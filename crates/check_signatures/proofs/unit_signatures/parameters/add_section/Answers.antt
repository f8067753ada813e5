use Rattle.check_signatures.proofs.unit_signatures.ParameterLaws.{section_without, section_added}
use Rattle.check_signatures.proofs.unit_signatures.parameters.add_section.Goals as goal

pub returns-then-not-has_parameters : goal.returns-then-not-has_parameters
returns-then-not-has_parameters c = section_without c.args.weighed.now c.args.s.now _ _ c.args.section.now _ c.has_parameters.ensures c.if-not-has_parameters.true

pub returns : goal.returns
returns c = section_added c.args.weighed.now c.args.s.now _ _ _ _ c.args.section.now _ _ c.has_parameters.ensures c.if-not-has_parameters.false c.as_slice-items.ensures c.in_ok-add_items.ensures
