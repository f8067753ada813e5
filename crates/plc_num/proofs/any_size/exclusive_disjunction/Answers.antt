use Rattle.plc_num.specs.Bits.{exclusive_disjunction}
use Rattle.plc_num.proofs.Wide.{operands_are, exclusive_wide}
use Rattle.plc_num.proofs.any_size.exclusive_disjunction.Goals as goal

pub returns : goal.returns
returns c =
    operands_are c.args.e c.args.a c.args.b c.xor.result c.ranges.a c.ranges.b (record { sfits = c.xor.type_inv }) c.wrap.result c.wrap-2.result c.wrap.ensures.value c.wrap-2.ensures.value (record { sfits = c.wrap.type_inv }) (record { sfits = c.wrap-2.type_inv })
    exclusive_disjunction (exclusive_wide c.args.e c.args.a c.args.b) c.xor.ensures.value
