use Rattle.std.proofs.Common.{refl, ◌∙◌, ap, arith}
use Rattle.std.specs.Prelude.{◌-◌, ◌*◌, min}
use Rattle.undo_image.proofs.BlockLaws.{restored_block}
use Rattle.undo_image.proofs.blocks.Blocks.put_back.Goals as goal

pub returns : goal.returns
returns c =
    let a = c.args in
    let n = c.min-n.ensures ∙ ap (λ x. min (x - a.block * 256) 256) c.len.ensures.len in
    let done = restored_block a.self.now _ a.block c.min-n.result c.requires.formed c.requires.within c.requires.marked n refl c.copy_from.ensures.after refl refl in
    record { restores = done.0; unmarked = done.1 }
