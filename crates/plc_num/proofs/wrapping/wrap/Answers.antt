use Rattle.plc_num.proofs.WrappingLaws.{wrapped-is}
use Rattle.plc_num.proofs.Machine.{handed_on}
use Rattle.plc_num.proofs.wrapping.wrap.Goals as goal

pub returns-clause-value : goal.returns-clause-value
returns-clause-value c = wrapped-is _ _ _ (handed_on _ _ _ c.ranges.v (record { sfits = c.turned.type_inv }) c.turned.ensures)
