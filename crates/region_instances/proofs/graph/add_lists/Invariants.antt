use Rattle.std.proofs.Common.{◌≡◌, ◌++◌, map, drop}
use Rattle.region_instances.specs.Private.Graph.{nodes_in}
use Rattle.region_instances.proofs.graph.add_lists.Given as goal

abbrev pub invariant-loop-variables : goal.invariant-loop-variables
invariant-loop-variables l = (l.lists.items ++ map (nodes_in l.counts) (drop l.variables-index l.members)) ≡ (l.initial.lists.items ++ map (nodes_in l.counts) l.members)
