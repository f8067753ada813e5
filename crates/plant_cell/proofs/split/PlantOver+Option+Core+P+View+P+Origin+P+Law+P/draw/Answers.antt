use Rattle.std.proofs.Common.{arith, ◌∙◌}
use Rattle.plant_cell.proofs.NumberSteps.{draws_asks}
use Rattle.plant_cell.proofs.split.PlantOver+Option+Core+P+View+P+Origin+P+Law+P.draw.Goals as goal

pub compare_exchange-found-requires : goal.compare_exchange-found-requires
compare_exchange-found-requires g c =
    let words = c.args.self.now.counts.0 in
    let i = c.loop-known.invariant in
    let p = i.2 in
    let t = c.loop-known-test.true in
    (i.0 ∙ c.requires.table, omega arith, draws_asks _ _ _ _ _ _ _ _ _ _ i.3 c.requires.start c.requires.limit (omega arith))
