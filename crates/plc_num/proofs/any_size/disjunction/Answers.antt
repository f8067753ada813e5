use Rattle.plc_num.specs.Bits.{disjunction}
use Rattle.plc_num.proofs.Wide.{operands_are, disjunction_wide}
use Rattle.plc_num.proofs.any_size.disjunction.Goals as goal

pub returns : goal.returns
returns c =
    operands_are c.args.e c.args.a c.args.b c.or.result c.ranges.a c.ranges.b (record { sfits = c.or.type_inv }) c.wrap.result c.wrap-2.result c.wrap.ensures.value c.wrap-2.ensures.value (record { sfits = c.wrap.type_inv }) (record { sfits = c.wrap-2.type_inv })
    disjunction (disjunction_wide c.args.e c.args.a c.args.b) c.or.ensures.value
