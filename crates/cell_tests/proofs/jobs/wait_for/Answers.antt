use Rattle.std.proofs.Common.{ap, refl, sym, ◌∙◌}
use Rattle.plant_cell.proofs.CycleLaws.{grown_by, grows_same}
use Rattle.cell_tests.proofs.jobs.wait_for.Goals as goal

pub leave-requires-clause-grown : goal.leave-requires-clause-grown
leave-requires-clause-grown g c = grown_by _ c.enter-turn.result.core _ _ _ _ c.enter-turn.ensures.found.is (ap (λ z. z.found) c.enter-turn.ensures.known) refl (grows_same _ _ _ refl)
