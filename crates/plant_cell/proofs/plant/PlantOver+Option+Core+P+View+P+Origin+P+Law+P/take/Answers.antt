use Rattle.std.proofs.Common.{arith, ◌<◌, ◌+◌}
use Rattle.plant_cell.proofs.TurnSteps.{take_asks}
use Rattle.plant_cell.proofs.plant.PlantOver+Option+Core+P+View+P+Origin+P+Law+P.take.Goals as goal

pub compare_exchange-found-requires : goal.compare_exchange-found-requires
compare_exchange-found-requires g c =
    let words = c.args.self.now.counts.0 in
    let some : 0 < c.args.number + 1 = omega arith in
    (c.requires.table, omega (arith, words), take_asks _ _ _ _ _ _ _ c.requires.start c.requires.free some)
