use Rattle.std.proofs.Common.{◌≡◌, drop}
use Rattle.std.specs.Prelude.{max}
use Rattle.process_image.specs.Private.Shown.{all_shown, covered_by}
use Rattle.process_image.proofs.outputs.covered.Given as goal

abbrev pub invariant-loop-x : goal.invariant-loop-x
invariant-loop-x l = max l.most (covered_by (all_shown (drop l.x-index l.shown))) ≡ covered_by (all_shown l.shown)
