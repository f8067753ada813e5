use Rattle.std.proofs.Common.{refl}
use Rattle.st_rules.proofs.ListLaws.{left_next, left_end}
use Rattle.st_values.specs.View as view
use Rattle.program_tables.specs.st_initial.Variables.{variables_of}
use Rattle.routine_tables.proofs.declared.push_sections.Goals as goal

pub loop-section-preserved : goal.loop-section-preserved
loop-section-preserved c =
    left_next (view.variables_in) c.args.sections.now c.loop-section.section-index c.section-item.result (variables_of c.loop-section.out.items) _ (_) _
    c.loop-section-test.true c.section-item.is refl c.in_ok-push_section.ensures c.loop-section.invariant

pub returns : goal.returns
returns c = left_end (view.variables_in) c.args.sections.now c.loop-section.section-index (variables_of c.loop-section.out.items) _ refl c.loop-section-test.false c.loop-section.invariant
