use Rattle.std.proofs.Common.{◌≡◌, ◌+◌, ◌-◌}
use Rattle.check_regions.specs.shared_bits.Taken.{marked}
use Rattle.check_regions.specs.shared_bits.Private.Spans.{any_from}
use Rattle.check_regions.proofs.shared_bits.table.any_taken.Given as goal

abbrev pub invariant-loop-k : goal.invariant-loop-k
invariant-loop-k l = any_from l.k (l.start + l.width - l.k) (marked l.table) ≡ any_from l.start l.width (marked l.table)
