use Rattle.plc_num.proofs.BitLaws.{or_bits}
use Rattle.plc_num.proofs.bits.either.Goals as goal

pub returns : goal.returns
returns c = λ k l. or_bits _ _ k c.ranges.a c.ranges.b l
