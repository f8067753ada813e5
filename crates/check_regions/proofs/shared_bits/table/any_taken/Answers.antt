use Rattle.std.proofs.Common.{◌+◌}
use Rattle.check_regions.proofs.shared_bits.BitLaws.{any_past}
use Rattle.check_regions.proofs.shared_bits.table.any_taken.Goals as goal

pub loop-k-preserved : goal.loop-k-preserved
loop-k-preserved c = any_past c.args.table.now c.loop-k.k (c.args.start + c.args.width) _ c.loop-k-test.true c.if-table-k.false c.loop-k.invariant
