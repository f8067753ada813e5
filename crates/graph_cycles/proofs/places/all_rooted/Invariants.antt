use Rattle.std.proofs.Common.{◌≡◌, drop}
use Rattle.graph_cycles.specs.Private.Places.{all_rooted}
use Rattle.graph_cycles.proofs.places.all_rooted.Given as goal

abbrev pub invariant-loop-i : goal.invariant-loop-i
invariant-loop-i l = all_rooted l.edges l.places l.i (drop l.i l.places) ≡ all_rooted l.edges l.places 0 l.places
