use Rattle.std.proofs.Common.{◌≡◌, ◌+◌, ◌∙◌, ap, sym, subst, arith, length}
use Rattle.std.specs.Prelude.{slice_range}
use Rattle.mem_image.proofs.PartLaws.{length-range}
use Rattle.undo_image.specs.Private.Blocks.{AreMarked}
use Rattle.undo_image.proofs.BlockLaws.{written_undoable}
use Rattle.undo_image.proofs.undo_image.UndoImage.copy_within_image.Goals as goal

pub invariant_of-self : goal.invariant_of-self
invariant_of-self c =
    let a = c.args in
    let b = c.preserve.new.self in
    let stays = c.preserve.ensures.stays in
    let same : length b.image ≡ length c.self.inside.blocks.image = ap length stays.image in
    let view : length c.self.inside.blocks.image ≡ length a.self.now.bytes = ap (λ x. length x.bytes) c.self.view_is in
    let size : length (slice_range b.image a.from (a.from + a.len)) ≡ a.len = length-range b.image a.from a.len (omega (arith, c.requires.source)) in
    written_undoable b _ (slice_range b.image a.from (a.from + a.len)) _ a.to (stays.undoable _ c.self.invariant) (omega (arith, c.requires.target))
    (subst (AreMarked b a.to) (sym size) c.preserve.ensures.marked) c.copy_within_image.ensures.after
