use Rattle.plant_tests.proofs.plant_counters.Bytes.{left_empty}
use Rattle.plant_tests.proofs.plant_counters.counters.carry.Goals as goal

pub returns-in_default-clause-to : goal.returns-in_default-clause-to
returns-in_default-clause-to c = left_empty _ _ _ c.in_default.ensures.image c.requires.empty
