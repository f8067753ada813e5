use Rattle.st_unit_rules.specs.declared_names.Variables.{section_written}
use Rattle.declared_symbols.proofs.untold_names.GlobalLaws.{adds_next, adds_all}
use Rattle.declared_symbols.proofs.untold_names.globals.add_sections.Goals as goal

pub loop-section-preserved : goal.loop-section-preserved
loop-section-preserved c =
    adds_next (section_written) _ c.loop-section.section-index c.section-item.result _ _ _ _ _ _ c.loop-section-test.true c.section-item.is c.loop-section.invariant c.in_ok-region.ensures

pub returns : goal.returns
returns c = adds_all (section_written) _ c.loop-section.section-index _ _ _ _ c.loop-section-test.false c.loop-section.invariant
