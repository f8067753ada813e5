use Rattle.std.proofs.Common.{drop}
use Rattle.plant_core.proofs.plant_moves.Copies.{Copying}
use Rattle.plant_core.proofs.plant_moves.moves.copy_all.Given as goal

abbrev pub invariant-loop-region : goal.invariant-loop-region
invariant-loop-region l = Copying l.regions (drop l.region-index l.regions) l.from l.initial.to l.to
