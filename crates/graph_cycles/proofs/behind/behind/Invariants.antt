use Rattle.std.proofs.Common.{◌≡◌, ◌-◌, ℕ, length, true}
use Rattle.graph_cycles.specs.Graph.{marked}
use Rattle.graph_cycles.specs.Private.Ways.{mark_count, AllEnd}
use Rattle.graph_cycles.proofs.behind.behind.Given as goal

abbrev pub invariant-rounds : goal.invariant-rounds
invariant-rounds l = record {
  long : length l.marks.items ≡ length l.fn.goals.items;
  sound : AllEnd l.edges l.fn.goals.items l.marks.items;
  grows : (i : ℕ) → marked l.fn.goals.items i ≡ true → marked l.marks.items i ≡ true;
}

abbrev pub decreases-rounds : goal.decreases-rounds
decreases-rounds l = length l.fn.goals.items - mark_count l.marks.items
