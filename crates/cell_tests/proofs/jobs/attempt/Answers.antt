use Rattle.std.proofs.Common.{ap}
use Rattle.plant_cell.specs.Known.{first_of}
use Rattle.plant_cell.proofs.CycleLaws.{has_run}
use Rattle.cell_tests.proofs.jobs.attempt.Goals as goal

pub run-ran-requires : goal.run-ran-requires
run-ran-requires g c = let h = c.in-Claim.ensures.tried in record { task = h.0.run.below; work = h.1; fit = h.0.run.fits }

pub end_play-requires-clause-ran : goal.end_play-requires-clause-ran
end_play-requires-clause-ran g c =
    let r = c.run-ran.ensures in
    has_run g.P.Controlled.meaning _ _ _ _ _ _ _ _ _ _ _ _ _ _ _ _ _ _ (ap first_of c.in-Claim.ensures.numbers) c.in-Claim.ensures.tried.0 r.same.0 r.same.1 r.same.2 (ap (λ a. a.items) r.same.3) r.same.4 r.taken r.reply r.left
