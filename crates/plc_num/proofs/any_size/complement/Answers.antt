use Rattle.plc_num.specs.Bits.{complement}
use Rattle.plc_num.proofs.Wide.{operand_is, complement_wide}
use Rattle.plc_num.proofs.any_size.complement.Goals as goal

pub returns : goal.returns
returns c = operand_is c.args.e c.args.a c.not.result c.wrap.result c.ranges.a (record { sfits = c.not.type_inv }) (record { sfits = c.wrap.type_inv }) c.wrap.ensures.value complement (complement_wide c.args.e c.args.a) c.not.ensures.value
