use Rattle.std.proofs.Common.{◌≡◌, ◌<◌, ℕ, length}
use Rattle.std.specs.Bool.{Decides}
use Rattle.graph_cycles.specs.Graph.{marked}
use Rattle.graph_cycles.specs.Private.Ways.{IsTurning}
use Rattle.graph_cycles.proofs.search.searched.Given as goal

abbrev pub invariant-loop-i : goal.invariant-loop-i
invariant-loop-i l = record {
  long : length l.found.items ≡ l.i;
  each : (k : ℕ) → k < l.i → Decides (marked l.found.items k) (IsTurning l.edges k);
}
