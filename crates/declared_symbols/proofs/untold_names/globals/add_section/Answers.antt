use Rattle.std.proofs.Common.{ap}
use Rattle.std.specs.Prelude.{flat_map}
use Rattle.st_unit_rules.specs.declared_names.Variables.{item_written}
use Rattle.declared_symbols.proofs.untold_names.GlobalLaws.{adds_same, adds_next, adds_all}
use Rattle.declared_symbols.proofs.untold_names.globals.add_section.Goals as goal

pub loop-item-preserved : goal.loop-item-preserved
loop-item-preserved c =
    adds_next (item_written c.args.section.now) _ c.loop-item.item-index c.item-item.result _ _ _ _ _ _ c.loop-item-test.true c.item-item.is c.loop-item.invariant c.in_ok-region.ensures

pub returns : goal.returns
returns c =
    adds_same _ _ _ _ _ _ (ap (flat_map (item_written c.args.section.now)) c.as_slice-items.ensures)
    (adds_all (item_written c.args.section.now) c.as_slice-items.result.now c.loop-item.item-index _ _ _ _ c.loop-item-test.false c.loop-item.invariant)
