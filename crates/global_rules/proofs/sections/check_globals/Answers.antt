use Rattle.st_unit_rules.specs.declaration_list.Written.{names_in_section}
use Rattle.global_rules.proofs.SectionLaws.{adds_begun, adds_next, adds_ended}
use Rattle.global_rules.proofs.sections.check_globals.Goals as goal

pub loop-section-init : goal.loop-section-init
loop-section-init c = adds_begun c.args.tables.now.decls names_in_section c.args.sections.now c.args.faults.now.items c.args.regions.now

pub loop-section-preserved : goal.loop-section-preserved
loop-section-preserved c =
    adds_next c.args.tables.now.decls names_in_section c.args.sections.now _ _ _ _ _ _ c.section-item.result c.loop-section.section-index c.loop-section-test.true c.section-item.is c.in_ok-add_section.ensures c.loop-section.invariant

pub returns : goal.returns
returns c = adds_ended c.args.tables.now.decls names_in_section c.args.sections.now _ _ _ _ _ c.loop-section-test.false c.loop-section.invariant
