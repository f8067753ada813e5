use Rattle.plc_num.proofs.Machine.{sum_is}
use Rattle.plc_num.proofs.arithmetic.add.Goals as goal

pub returns : goal.returns
returns c = sum_is _ _ _ _ c.ranges.a c.ranges.b (record { sfits = c.wrap.type_inv }) c.requires.left c.requires.right c.wrap.ensures.value
