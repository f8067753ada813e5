use Rattle.std.proofs.Common.{◌≡◌, ℕ, length}
use Rattle.std.specs.Prelude.{◌||◌}
use Rattle.check_regions.specs.shared_bits.Taken.{marked}
use Rattle.check_regions.specs.shared_bits.Private.Spans.{within}
use Rattle.check_regions.proofs.shared_bits.table.fill.Given as goal

abbrev pub invariant-loop-k : goal.invariant-loop-k
invariant-loop-k l = record {
  long : length l.table.items ≡ length l.fn.table.items;
  each : (j : ℕ) → marked l.table.items j ≡ (marked l.fn.table.items j || within l.start l.k j);
}
