use Rattle.plc_num.proofs.Machine.{remainder_is}
use Rattle.plc_num.proofs.arithmetic.rem.Goals as goal

pub returns-clause-some : goal.returns-clause-some
returns-clause-some c = remainder_is _ _ _ _ c.ranges.a c.ranges.b (record { sfits = c.wrap.type_inv }) c.wrap.ensures.value
