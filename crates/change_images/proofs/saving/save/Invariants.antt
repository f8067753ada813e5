use Rattle.change_images.proofs.Steps.{SavedBelow}
use Rattle.change_images.proofs.saving.save.Given as goal

abbrev pub invariant-loop-region : goal.invariant-loop-region
invariant-loop-region l = SavedBelow l.olds l.initial.saved l.region l.saved
