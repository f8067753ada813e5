use Rattle.st_unit_rules.specs.Checked.{TypedSection}
use Rattle.st_unit_rules.specs.VariableRules.{section_faults}
use Rattle.section_rules.specs.Home.{home_of}
use Rattle.check_declared_variables.proofs.variable_rules.EachLaws.{each_begun, each_next, each_least, each_trees}
use Rattle.check_declared_variables.proofs.variable_rules.SectionLaws.{sections_ended}
use Rattle.check_declared_variables.proofs.variable_rules.sections.check_sections.Goals as goal

pub loop-section-init : goal.loop-section-init
loop-section-init c =
    each_begun (TypedSection c.args.s.now) (section_faults c.args.s.now (home_of c.args.home)) c.args.sections.now _ _ c.no_sections-so_far.ensures.least c.no_sections-so_far.ensures.sections

pub loop-section-preserved : goal.loop-section-preserved
loop-section-preserved c =
    each_next (TypedSection c.args.s.now) (section_faults c.args.s.now (home_of c.args.home)) c.args.sections.now _ _ _ _ _ _ _ _ c.loop-section-test.true c.section-item.is c.in_ok-so_far.ensures.least
    c.in_ok-one.ensures.least c.in_ok-one.ensures.tree c.in_ok-so_far.ensures.sections c.loop-section.invariant

pub returns : goal.returns
returns c =
    sections_ended _ _ _ _ (each_least (TypedSection c.args.s.now) (section_faults c.args.s.now (home_of c.args.home)) c.args.sections.now _ _ _ c.loop-section-test.false c.loop-section.invariant)
    (each_trees (TypedSection c.args.s.now) (section_faults c.args.s.now (home_of c.args.home)) c.args.sections.now _ _ _ c.loop-section-test.false c.loop-section.invariant)
