use Rattle.st_unit_rules.specs.declaration_list.Written.{names_in_item}
use Rattle.global_rules.proofs.SectionLaws.{adds_begun, adds_next, adds_ended, section_added}
use Rattle.global_rules.proofs.sections.add_section.Goals as goal

pub loop-item-init : goal.loop-item-init
loop-item-init c = adds_begun c.args.tables.now.decls (names_in_item c.args.section.now) c.as_slice-items.result.now c.args.faults.now.items c.args.regions.now

pub loop-item-preserved : goal.loop-item-preserved
loop-item-preserved c =
    adds_next c.args.tables.now.decls (names_in_item c.args.section.now) c.as_slice-items.result.now _ _ _ _ _ _ c.item-item.result c.loop-item.item-index c.loop-item-test.true c.item-item.is c.in_ok-add_item.ensures c.loop-item.invariant

pub returns : goal.returns
returns c =
    section_added c.args.tables.now.decls _ _ _ _ c.args.section.now _ c.as_slice-items.ensures
    (adds_ended c.args.tables.now.decls (names_in_item c.args.section.now) c.as_slice-items.result.now _ _ _ _ _ c.loop-item-test.false c.loop-item.invariant)
