use Rattle.st_unit_rules.specs.Checked.{TypedSection}
use Rattle.st_unit_rules.specs.VariableRules.{section_faults}
use Rattle.section_rules.specs.Home.{home_of}
use Rattle.check_declared_variables.proofs.variable_rules.EachLaws.{EachTo}
use Rattle.check_declared_variables.proofs.variable_rules.sections.check_sections.Given as goal

abbrev pub invariant-loop-section : goal.invariant-loop-section
invariant-loop-section l = EachTo (TypedSection l.s) (section_faults l.s (home_of l.home)) l.so_far.least l.so_far.sections l.sections l.section-index
