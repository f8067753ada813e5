use Rattle.plc_num.specs.Arithmetic.{sum}
use Rattle.plc_num.proofs.Wide.{operands_are, sum_wide}
use Rattle.plc_num.proofs.any_size.sum.Goals as goal

pub returns : goal.returns
returns c =
    operands_are c.args.e c.args.a c.args.b c.add.result c.ranges.a c.ranges.b (record { sfits = c.add.type_inv }) c.wrap.result c.wrap-2.result c.wrap.ensures.value c.wrap-2.ensures.value (record { sfits = c.wrap.type_inv }) (record { sfits = c.wrap-2.type_inv })
    sum (sum_wide c.args.e c.args.a c.args.b) c.add.ensures
