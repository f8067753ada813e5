use Rattle.undo_image.specs.Private.Blocks.{Preserved}
use Rattle.undo_image.proofs.blocks.Blocks.preserve_many.Given as goal

abbrev pub invariant-blocks-2 : goal.invariant-blocks-2
invariant-blocks-2 l = Preserved l.fn.self l.self l.first l.block
