use Rattle.std.proofs.Common.{drop}
use Rattle.plant_core.proofs.plant_moves.Movings.{Going}
use Rattle.plant_core.proofs.plant_moves.moves.move_all.Given as goal

abbrev pub invariant-loop-region : goal.invariant-loop-region
invariant-loop-region l = Going l.regions (drop l.region-index l.regions) l.initial.from l.initial.to l.from l.to
