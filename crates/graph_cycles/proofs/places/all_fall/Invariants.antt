use Rattle.std.proofs.Common.{◌≡◌, drop}
use Rattle.std.specs.List.{list_all}
use Rattle.graph_cycles.specs.Private.Places.{falls}
use Rattle.graph_cycles.proofs.places.all_fall.Given as goal

abbrev pub invariant-loop-edge : goal.invariant-loop-edge
invariant-loop-edge l = list_all (falls l.places) (drop l.edge-index l.edges) ≡ list_all (falls l.places) l.edges
