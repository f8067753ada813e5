use Rattle.plant_core.proofs.plant_moves.Places.{nothing_moved}
use Rattle.plant_core.proofs.plant_moves.moves.move_one.Goals as goal

pub returns-in_default-clause-to : goal.returns-in_default-clause-to
returns-in_default-clause-to c = nothing_moved _ _ _ c.in_default.ensures.image c.requires.empty
