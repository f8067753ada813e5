use Rattle.std.proofs.Common.{◌≡◌, ◌∙◌, refl, ap, sym, subst, arith, length}
use Rattle.st_types.specs.Elem.{bytes}
use Rattle.std.specs.Int.{w128}
use Rattle.std.proofs.lemmas.Int.{to_z-of_z}
use Rattle.mem_image.specs.Image.{bytes_of, replaced}
use Rattle.mem_image.proofs.ValueLaws.{spells_once}
use Rattle.undo_image.specs.Private.Blocks.{AreMarked}
use Rattle.undo_image.proofs.BlockLaws.{written_undoable}
use Rattle.undo_image.proofs.undo_image.UndoImage.write.Goals as goal

pub invariant_of-self : goal.invariant_of-self
invariant_of-self c =
    let a = c.args in
    let b = c.preserve_few.new.self in
    let stays = c.preserve_few.ensures.stays in
    let long : length (bytes_of a.e a.v) ≡ bytes a.e = ((spells_once a.e a.v (bytes_of a.e a.v)).1 refl).count in
    let same : length b.image ≡ length c.self.inside.blocks.image = ap length stays.image in
    let view : length c.self.inside.blocks.image ≡ length a.self.now.bytes = ap (λ x. length x.bytes) c.self.view_is in
    written_undoable b _ (bytes_of a.e a.v) _ a.offset (stays.undoable _ c.self.invariant) (omega (arith, c.requires.within))
    (subst (AreMarked b a.offset) (c.bytes.ensures ∙ sym long) c.preserve_few.ensures.marked) (c.write.ensures.after ∙ ap (λ v. replaced b.image a.offset (bytes_of a.e v)) (to_z-of_z w128 a.v c.ranges.v))
