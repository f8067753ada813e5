use Rattle.std.proofs.Common.{◌≡◌, ℕ, Bool, List, length, true}
use Rattle.graph_cycles.specs.Graph.{marked}
use Rattle.graph_cycles.specs.Private.Ways.{AllEnd}
use Rattle.graph_cycles.proofs.behind.ordered.Given as goal

abbrev pub invariant-loop-k : goal.invariant-loop-k
invariant-loop-k l = record {
  long : length l.marks.items ≡ length l.fn.marks.items;
  sound : (goals : List Bool) → AllEnd l.edges goals l.fn.marks.items → AllEnd l.edges goals l.marks.items;
  grows : (i : ℕ) → marked l.fn.marks.items i ≡ true → marked l.marks.items i ≡ true;
}
