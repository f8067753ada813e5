use Rattle.plc_num.proofs.Wide.{quotient_wide}
use Rattle.plc_num.proofs.any_size.quotient.Goals as goal

pub returns : goal.returns
returns c = quotient_wide c.args.e c.args.a c.args.b c.wrap-2.result c.ranges.a c.ranges.b (record { sfits = c.wrap-2.type_inv }) c.requires c.if-b-eq1.false c.if-b-eqminus1.false c.wrap-2.ensures.value
