use Rattle.std.proofs.Common.{map, ap}
use Rattle.st_unit_rules.specs.declaration_list.Written.{written_in}
use Rattle.declared_symbols.proofs.untold_names.GlobalLaws.{adds_same, adds_one, adds_each}
use Rattle.declared_symbols.proofs.untold_names.globals.add_item.Goals as goal

pub loop-name-preserved : goal.loop-name-preserved
loop-name-preserved c =
    adds_one (written_in c.args.section.now c.args.item.now) _ c.loop-name.name-index c.name-item.result _ _ _ _ _ _ c.loop-name-test.true c.name-item.is c.loop-name.invariant c.in_ok-region.ensures

pub returns : goal.returns
returns c =
    adds_same _ _ _ _ _ _ (ap (map (written_in c.args.section.now c.args.item.now)) c.as_slice-names.ensures)
    (adds_each (written_in c.args.section.now c.args.item.now) c.as_slice-names.result.now c.loop-name.name-index _ _ _ _ c.loop-name-test.false c.loop-name.invariant)
