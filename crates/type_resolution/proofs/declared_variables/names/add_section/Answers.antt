use Rattle.std.proofs.Common.{◌++◌, map, refl, ap, ◌∙◌}
use Rattle.std.specs.Prelude.{flat_map}
use Rattle.st_rules.proofs.ListLaws.{left_next, left_end}
use Rattle.type_resolution.specs.declared_variables.Private.Told.{told_as, names_of_item}
use Rattle.type_resolution.proofs.declared_variables.names.add_section.Goals as goal

pub loop-item-preserved : goal.loop-item-preserved
loop-item-preserved c =
    left_next (flat_map (names_of_item c.args.s.now c.args.section.now)) c.as_slice-items.result.now c.loop-item.item-index c.item-item.result (map told_as c.loop-item.list.items) _ (names_of_item c.args.s.now c.args.section.now c.item-item.result) _
    c.loop-item-test.true c.item-item.is refl c.in_ok-add_item.ensures c.loop-item.invariant

pub returns : goal.returns
returns c = left_end (flat_map (names_of_item c.args.s.now c.args.section.now)) c.as_slice-items.result.now c.loop-item.item-index (map told_as c.loop-item.list.items) _ refl c.loop-item-test.false c.loop-item.invariant ∙ ap (λ xs. map told_as c.args.list.now.items ++ flat_map (names_of_item c.args.s.now c.args.section.now) xs) c.as_slice-items.ensures
