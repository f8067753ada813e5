use Rattle.st_unit_rules.specs.Checked.{TypedItem}
use Rattle.st_unit_rules.specs.VariableRules.{item_faults}
use Rattle.section_rules.specs.Home.{home_of}
use Rattle.check_declared_variables.proofs.variable_rules.EachLaws.{EachTo}
use Rattle.check_declared_variables.proofs.variable_rules.sections.check_items.Given as goal

abbrev pub invariant-loop-item : goal.invariant-loop-item
invariant-loop-item l = EachTo (TypedItem l.s) (item_faults l.s (home_of l.home) l.section) l.so_far.least l.so_far.items l.items l.item-index
