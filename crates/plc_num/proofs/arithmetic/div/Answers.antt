use Rattle.plc_num.proofs.Machine.{quotient_is}
use Rattle.plc_num.proofs.arithmetic.div.Goals as goal

pub returns-clause-some : goal.returns-clause-some
returns-clause-some c = quotient_is _ _ _ _ c.ranges.a c.ranges.b (record { sfits = c.wrap.type_inv }) c.requires.left c.wrap.ensures.value
