use Rattle.plc_num.proofs.Machine.{product_is}
use Rattle.plc_num.proofs.any_size.product.Goals as goal

pub returns : goal.returns
returns c = product_is _ _ _ _ c.ranges.a c.ranges.b (record { sfits = c.wrap.type_inv }) c.wrap.ensures.value
