use Rattle.plant_core.proofs.plant_moves.Copies.{copying_begun, copying_one, copying_step, copying_end}
use Rattle.plant_core.proofs.plant_moves.moves.copy_all.Goals as goal

pub loop-region-init : goal.loop-region-init
loop-region-init c = copying_begun _ _ _ c.requires.rising c.requires.may

pub copy_one-requires : goal.copy_one-requires
copy_one-requires c = let k = copying_one _ _ _ _ _ c.loop-region-test.true c.loop-region.invariant in record { from = k.0; to = k.1; same = k.2 }

pub loop-region-preserved : goal.loop-region-preserved
loop-region-preserved c = copying_step _ _ _ _ _ _ c.loop-region-test.true c.loop-region.invariant c.copy_one.ensures

pub returns : goal.returns
returns c = copying_end _ _ _ _ _ c.loop-region-test.false c.loop-region.invariant
