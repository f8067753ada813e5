use Rattle.plc_num.proofs.BitLaws.{and_bits}
use Rattle.plc_num.proofs.bits.both.Goals as goal

pub returns : goal.returns
returns c = λ k l. and_bits _ _ k c.ranges.a c.ranges.b l
