use Rattle.std.proofs.Common.{◌≡◌, ◌<◌, ◌≤◌, ℕ, length, true, false, Some}
use Rattle.std.specs.List.{slice_get}
use Rattle.graph_reach.specs.declared.threads.Edge.{Edge}
use Rattle.graph_cycles.specs.Private.Ways.{mark_count, Sound, IsClosedAt}
use Rattle.graph_cycles.proofs.search.round.Given as goal

abbrev pub invariant-loop-edge : goal.invariant-loop-edge
invariant-loop-edge l = record {
  long : length l.marks.items ≡ length l.fn.marks.items;
  sound : Sound l.edges l.root l.fn.marks.items → Sound l.edges l.root l.marks.items;
  stays : l.changed ≡ false → l.marks.items ≡ l.fn.marks.items;
  closed : l.changed ≡ false → (k : ℕ) → k < l.edge-index → (e : Edge) → slice_get l.edges k ≡ Some e → IsClosedAt l.root l.fn.marks.items e;
  least : mark_count l.fn.marks.items ≤ mark_count l.marks.items;
  more : l.changed ≡ true → mark_count l.fn.marks.items < mark_count l.marks.items;
}
