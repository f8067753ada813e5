use Rattle.st_unit_rules.specs.Checked.{TypedItem}
use Rattle.st_unit_rules.specs.VariableRules.{item_faults}
use Rattle.section_rules.specs.Home.{home_of}
use Rattle.check_declared_variables.proofs.variable_rules.EachLaws.{each_begun, each_next, each_least, each_trees}
use Rattle.check_declared_variables.proofs.variable_rules.SectionLaws.{items_ended}
use Rattle.check_declared_variables.proofs.variable_rules.sections.check_items.Goals as goal

pub loop-item-init : goal.loop-item-init
loop-item-init c =
    each_begun (TypedItem c.args.s.now) (item_faults c.args.s.now (home_of c.args.home) c.args.section.now) c.args.items.now _ _ c.no_items-so_far.ensures.least c.no_items-so_far.ensures.items

pub loop-item-preserved : goal.loop-item-preserved
loop-item-preserved c =
    each_next (TypedItem c.args.s.now) (item_faults c.args.s.now (home_of c.args.home) c.args.section.now) c.args.items.now _ _ _ _ _ _ _ _ c.loop-item-test.true c.item-item.is c.in_ok-so_far.ensures.least
    c.in_ok-one.ensures.least c.in_ok-one.ensures.tree c.in_ok-so_far.ensures.items c.loop-item.invariant

pub returns : goal.returns
returns c =
    items_ended _ _ _ _ _ (each_least (TypedItem c.args.s.now) (item_faults c.args.s.now (home_of c.args.home) c.args.section.now) c.args.items.now _ _ _ c.loop-item-test.false c.loop-item.invariant)
    (each_trees (TypedItem c.args.s.now) (item_faults c.args.s.now (home_of c.args.home) c.args.section.now) c.args.items.now _ _ _ c.loop-item-test.false c.loop-item.invariant)
