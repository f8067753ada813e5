use Rattle.std.proofs.Common.{inl, refl}
use Rattle.plant_core.proofs.plant_moves.Movings.{going_begun, going_at, going_step, going_end}
use Rattle.plant_core.proofs.plant_moves.moves.move_all.Goals as goal

pub loop-region-init : goal.loop-region-init
loop-region-init c = going_begun _ _ _ c.requires.rising c.requires.may

pub move_one-requires : goal.move_one-requires
move_one-requires c = let m = (going_at _ _ _ _ _ _ c.loop-region-test.true c.loop-region.invariant).may _ (inl refl) in record { from = m.0; to = m.1; empty = m.2 }

pub loop-region-preserved : goal.loop-region-preserved
loop-region-preserved c = going_step _ _ _ _ _ _ _ _ c.loop-region-test.true c.loop-region.invariant c.move_one.ensures.from c.move_one.ensures.to

pub returns : goal.returns
returns c = going_end _ _ _ _ _ _ c.loop-region-test.false c.loop-region.invariant
