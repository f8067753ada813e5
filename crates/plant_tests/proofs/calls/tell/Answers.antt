use Rattle.plant_tests.proofs.Inputs.{short}
use Rattle.plant_tests.proofs.calls.tell.Goals as goal

pub tell_counters-requires : goal.tell_counters-requires
tell_counters-requires c = record { few = c.in-Ok.ensures.ok.played-are.few-plays; inputs = short _ _ c.in-Ok.ensures.ok }
