use Rattle.std.proofs.Common.{Some}
use Rattle.image_moves.specs.MoveViews.{moves_of}
use Rattle.change_images.specs.Apply.{source_of}
use Rattle.change_images.proofs.Steps.{source_lacks, image_lacks}
use Rattle.change_images.proofs.carrying.carry_region.Goals as goal

pub returns-in_default : goal.returns-in_default
returns-in_default g c = source_lacks (g.R.Relocates.by c.args.relocation.now) c.args.olds.now c.args.news.now c.args.region c.args.plan.now.source (moves_of c.args.plan.now.moves) c.in_default.ensures c.requires.region

pub returns-in_default-at_mut : goal.returns-in_default-at_mut
returns-in_default-at_mut g c = image_lacks (g.R.Relocates.by c.args.relocation.now) c.args.olds.now c.args.news.now c.args.region (source_of (Some c.args.plan.now)) c.in_default-at_mut.ensures.value
