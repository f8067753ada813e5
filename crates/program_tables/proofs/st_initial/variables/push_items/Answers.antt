use Rattle.std.proofs.Common.{refl}
use Rattle.st_rules.proofs.ListLaws.{left_next, left_end}
use Rattle.st_values.specs.View as view
use Rattle.program_tables.specs.st_initial.Variables.{variables_of}
use Rattle.program_tables.proofs.st_initial.variables.push_items.Goals as goal

pub loop-item-preserved : goal.loop-item-preserved
loop-item-preserved c =
    left_next (view.items_in c.args.sort) c.args.items.now c.loop-item.item-index c.item-item.result (variables_of c.loop-item.out.items) _ (view.named_variables c.args.sort c.item-item.result c.item-item.result.marks c.item-item.result.names) _
    c.loop-item-test.true c.item-item.is refl c.in_ok-push_item.ensures c.loop-item.invariant

pub returns : goal.returns
returns c = left_end (view.items_in c.args.sort) c.args.items.now c.loop-item.item-index (variables_of c.loop-item.out.items) _ refl c.loop-item-test.false c.loop-item.invariant
