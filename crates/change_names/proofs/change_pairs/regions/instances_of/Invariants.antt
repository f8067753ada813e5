use Rattle.change_names.proofs.change_pairs.RegionLaws.{InstancesLeft}
use Rattle.change_names.proofs.change_pairs.regions.instances_of.Given as goal

abbrev pub invariant-loop-region : goal.invariant-loop-region
invariant-loop-region l = InstancesLeft l.regions l.region-index l.out.items
