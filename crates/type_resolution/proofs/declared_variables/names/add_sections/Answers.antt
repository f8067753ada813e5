use Rattle.std.proofs.Common.{map, refl}
use Rattle.std.specs.Prelude.{flat_map}
use Rattle.st_rules.proofs.ListLaws.{left_next, left_end}
use Rattle.type_resolution.specs.declared_variables.Private.Told.{told_as, names_of_section}
use Rattle.type_resolution.proofs.declared_variables.names.add_sections.Goals as goal

pub loop-section-preserved : goal.loop-section-preserved
loop-section-preserved c =
    left_next (flat_map (names_of_section c.args.s.now)) c.args.sections.now c.loop-section.section-index c.section-item.result (map told_as c.loop-section.list.items) _ (names_of_section c.args.s.now c.section-item.result) _
    c.loop-section-test.true c.section-item.is refl c.in_ok-add_section.ensures c.loop-section.invariant

pub returns : goal.returns
returns c = left_end (flat_map (names_of_section c.args.s.now)) c.args.sections.now c.loop-section.section-index (map told_as c.loop-section.list.items) _ refl c.loop-section-test.false c.loop-section.invariant
