use Rattle.plc_num.proofs.BitLaws.{xor_bits}
use Rattle.plc_num.proofs.bits.one.Goals as goal

pub returns : goal.returns
returns c = λ k l. xor_bits _ _ k c.ranges.a c.ranges.b l
