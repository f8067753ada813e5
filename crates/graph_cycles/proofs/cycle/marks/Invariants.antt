use Rattle.std.proofs.Common.{◌≡◌, ℕ, drop, length}
use Rattle.std.specs.Prelude.{◌||◌}
use Rattle.std.specs.List.{list_any}
use Rattle.graph_cycles.specs.Graph.{marked}
use Rattle.graph_cycles.specs.Private.Places.{stays_from}
use Rattle.graph_cycles.proofs.cycle.marks.Given as goal

abbrev pub invariant-loop-edge : goal.invariant-loop-edge
invariant-loop-edge l = record {
  long : length l.marks.items ≡ length l.places;
  rest : (i : ℕ) → (marked l.marks.items i || list_any (stays_from l.places i) (drop l.edge-index l.edges)) ≡ list_any (stays_from l.places i) l.edges;
}
