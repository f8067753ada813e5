use Rattle.std.proofs.Common.{◌≡◌, ◌+◌, suc, refl, arith}
use Rattle.default_values.proofs.structure_worths.RoundLaws.{rounds_begun, rounds_next}
use Rattle.default_values.proofs.structure_worths.rounds.weigh_structures.Goals as goal

pub loop-below-init : goal.loop-below-init
loop-below-init g c = rounds_begun _ _ _ _ refl

pub loop-below-preserved : goal.loop-below-preserved
loop-below-preserved g c =
    let next : c.loop-below.below + 1 ≡ suc c.loop-below.below = omega arith in
    rounds_next _ _ _ _ _ c.loop-below.below _ _ _ _ c.loop-below.invariant c.in_ok-round.ensures refl next
