use Rattle.std.proofs.Common.{◌≡◌, ◌+◌, drop}
use Rattle.process_image.specs.Private.Shown.{all_shown, byte_in}
use Rattle.process_image.proofs.outputs.byte.Given as goal

abbrev pub invariant-loop-x : goal.invariant-loop-x
invariant-loop-x l = l.sum + byte_in (all_shown (drop l.x-index l.shown)) l.b ≡ byte_in (all_shown l.shown) l.b
