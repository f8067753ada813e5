use Rattle.std.proofs.Common.{◌≡◌, ◌<◌, ◌≤◌, ℕ, Bool, List, length, true, false, Some}
use Rattle.std.specs.List.{slice_get}
use Rattle.graph_reach.specs.declared.threads.Edge.{Edge}
use Rattle.graph_cycles.specs.Graph.{marked}
use Rattle.graph_cycles.specs.Private.Ways.{mark_count, AllEnd, IsClosedBack}
use Rattle.graph_cycles.proofs.behind.round.Given as goal

abbrev pub invariant-loop-edge : goal.invariant-loop-edge
invariant-loop-edge l = record {
  long : length l.marks.items ≡ length l.fn.marks.items;
  sound : (goals : List Bool) → AllEnd l.edges goals l.fn.marks.items → AllEnd l.edges goals l.marks.items;
  grows : (i : ℕ) → marked l.fn.marks.items i ≡ true → marked l.marks.items i ≡ true;
  stays : l.changed ≡ false → l.marks.items ≡ l.fn.marks.items;
  closed : l.changed ≡ false → (k : ℕ) → k < l.edge-index → (e : Edge) → slice_get l.edges k ≡ Some e → IsClosedBack l.fn.marks.items e;
  least : mark_count l.fn.marks.items ≤ mark_count l.marks.items;
  more : l.changed ≡ true → mark_count l.fn.marks.items < mark_count l.marks.items;
}
