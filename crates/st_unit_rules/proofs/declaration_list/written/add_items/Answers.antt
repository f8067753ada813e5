use Rattle.std.proofs.Common.{map, refl}
use Rattle.std.specs.Prelude.{flat_map}
use Rattle.st_rules.proofs.ListLaws.{left_next, left_end}
use Rattle.st_unit_rules.specs.declaration_list.Written.{global_of, names_in_item}
use Rattle.st_unit_rules.proofs.declaration_list.written.add_items.Goals as goal

pub loop-item-preserved : goal.loop-item-preserved
loop-item-preserved c =
    left_next (flat_map (names_in_item c.args.section.now)) c.args.items.now c.loop-item.item-index c.item-item.result (map global_of c.loop-item.list.items) _ (names_in_item c.args.section.now c.item-item.result) _
    c.loop-item-test.true c.item-item.is refl (rw c.as_slice.ensures at c.in_ok-add_names.ensures) c.loop-item.invariant

pub returns : goal.returns
returns c = left_end (flat_map (names_in_item c.args.section.now)) c.args.items.now c.loop-item.item-index (map global_of c.loop-item.list.items) _ refl c.loop-item-test.false c.loop-item.invariant
