use Rattle.plc_num.specs.Arithmetic.{difference}
use Rattle.plc_num.proofs.Wide.{operands_are, difference_wide}
use Rattle.plc_num.proofs.any_size.difference.Goals as goal

pub returns : goal.returns
returns c =
    operands_are c.args.e c.args.a c.args.b c.sub.result c.ranges.a c.ranges.b (record { sfits = c.sub.type_inv }) c.wrap.result c.wrap-2.result c.wrap.ensures.value c.wrap-2.ensures.value (record { sfits = c.wrap.type_inv }) (record { sfits = c.wrap-2.type_inv })
    difference (difference_wide c.args.e c.args.a c.args.b) c.sub.ensures
