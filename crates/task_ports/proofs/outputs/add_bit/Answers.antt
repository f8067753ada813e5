use Rattle.std.proofs.Common.{◌*◌, arith}
use Rattle.std.specs.Prelude.{unsigned_abs}
use Rattle.task_ports.proofs.SumLaws.{bit_here}
use Rattle.task_ports.proofs.outputs.add_bit.Goals as goal

pub bit_number-requires : goal.bit_number-requires
bit_number-requires c = (let h = bit_here c.args.bytes.now c.args.x.now.first (unsigned_abs c.args.z.now * c.args.x.now.weight) c.requires.space in omega arith)
