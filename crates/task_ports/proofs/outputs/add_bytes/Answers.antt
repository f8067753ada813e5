use Rattle.std.proofs.Common.{◌<◌, refl, arith}
use Rattle.process_image.proofs.ByteLaws.{without_next}
use Rattle.task_ports.proofs.SumLaws.{adds_next}
use Rattle.task_ports.proofs.outputs.add_bytes.Goals as goal

pub bytes-preserved : goal.bytes-preserved
bytes-preserved c =
    let a = c.args in
    let below : c.bytes.k < a.count = (let t = c.bytes-test.true in omega arith) in
    (without_next _ c.bytes.k c.bytes.left c.bytes.invariant.0, adds_next a.bytes.now a.first a.count a.n c.bytes.bytes _ c.bytes.k c.bytes.left _ c.bytes.invariant.1 c.bytes.invariant.0 below c.requires.end refl refl)
