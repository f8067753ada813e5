use Rattle.std.proofs.Common.{refl}
use Rattle.st_rules.proofs.ListLaws.{left_next, left_end}
use Rattle.check_names.specs.name_spaces.Private.Items.{item_names}
use Rattle.check_names.specs.name_spaces.NamesIn.{names_of}
use Rattle.check_names.proofs.name_spaces.names_in.add_items.Goals as goal

pub loop-item-preserved : goal.loop-item-preserved
loop-item-preserved c =
    left_next (item_names) c.args.items.now c.loop-item.item-index c.item-item.result (names_of c.loop-item.list.items) _ (c.item-item.result.names) _
    c.loop-item-test.true c.item-item.is refl (rw c.as_slice.ensures at c.in_ok-add_all.ensures) c.loop-item.invariant

pub returns : goal.returns
returns c = left_end (item_names) c.args.items.now c.loop-item.item-index (names_of c.loop-item.list.items) _ refl c.loop-item-test.false c.loop-item.invariant
