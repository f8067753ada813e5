use Rattle.std.proofs.Common.{◌≡◌, ◌++◌, map, drop}
use Rattle.region_instances.specs.Private.Instances.{region_node}
use Rattle.region_instances.proofs.instances.region_nodes.Given as goal

abbrev pub invariant-loop-region : goal.invariant-loop-region
invariant-loop-region l = (l.nodes ++ map (region_node l.counts) (drop l.region-index l.regions)) ≡ map (region_node l.counts) l.regions
