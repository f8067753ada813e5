use Rattle.process_image.proofs.ByteLaws.{without_next}
use Rattle.process_image.proofs.outputs.without.Goals as goal

pub loop-i-preserved : goal.loop-i-preserved
loop-i-preserved c = without_next c.args.n c.loop-i.i c.loop-i.left c.loop-i.invariant
