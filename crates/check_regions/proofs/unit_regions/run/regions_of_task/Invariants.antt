use Rattle.check_regions.proofs.unit_regions.RunLaws.{Runs}
use Rattle.check_regions.proofs.unit_regions.run.regions_of_task.Given as goal

abbrev pub invariant-loop-region : goal.invariant-loop-region
invariant-loop-region l = Runs l.task l.regions l.numbers l.number l.region-index
