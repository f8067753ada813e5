use Rattle.std.proofs.Common.{map, refl}
use Rattle.st_rules.proofs.ListLaws.{left_next, left_end}
use Rattle.st_unit_rules.specs.declaration_list.Written.{global_of, names_in_section, names_in_sections}
use Rattle.st_unit_rules.proofs.declaration_list.written.add_sections.Goals as goal

pub loop-section-preserved : goal.loop-section-preserved
loop-section-preserved c =
    left_next names_in_sections c.args.sections.now c.loop-section.section-index c.section-item.result (map global_of c.loop-section.list.items) _ (names_in_section c.section-item.result) _
    c.loop-section-test.true c.section-item.is refl c.in_ok-add_section.ensures c.loop-section.invariant

pub returns : goal.returns
returns c = left_end names_in_sections c.args.sections.now c.loop-section.section-index (map global_of c.loop-section.list.items) _ refl c.loop-section-test.false c.loop-section.invariant
