use Rattle.plant_tests.proofs.Inputs.{short}
use Rattle.cell_tests.proofs.answers.tell.Goals as goal

pub tell_plant-requires-clause-inputs : goal.tell_plant-requires-clause-inputs
tell_plant-requires-clause-inputs g c κs within = short _ _ c.in-Ok.ensures.ok
