use Rattle.std.proofs.Common.{◌≡◌, ◌-◌, length}
use Rattle.graph_cycles.specs.Private.Ways.{mark_count, Sound}
use Rattle.graph_cycles.proofs.search.returns.Given as goal

abbrev pub invariant-rounds : goal.invariant-rounds
invariant-rounds l = record {
  long : length l.marks.items ≡ l.count;
  sound : Sound l.edges l.root l.marks.items;
}

abbrev pub decreases-rounds : goal.decreases-rounds
decreases-rounds l = l.count - mark_count l.marks.items
