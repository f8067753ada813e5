use Rattle.std.proofs.Common.{arith}
use Rattle.plant_cell.proofs.NumberSteps.{looks_allowed}
use Rattle.plant_cell.proofs.split.PlantOver+Option+Core+P+View+P+Origin+P+Law+P.look.Goals as goal

pub load-requires : goal.load-requires
load-requires g c =
    let words = c.args.self.now.counts.0 in
    (c.requires, omega arith, looks_allowed _ _ _ _ _)
