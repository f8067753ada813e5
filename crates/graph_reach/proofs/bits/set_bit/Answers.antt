use Rattle.graph_reach.proofs.BitLaws.{bit-set}
use Rattle.graph_reach.proofs.bits.set_bit.Goals as goal

pub returns : goal.returns
returns c = bit-set c.args.row.now c.args.bit c.requires
