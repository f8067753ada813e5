use Rattle.std.proofs.Common.{◌≡◌, map}
use Rattle.std.specs.List.{range_with_len}
use Rattle.process_image.specs.Private.Shown.{all_shown, byte_in}
use Rattle.process_image.proofs.outputs.all_bytes.Given as goal

abbrev pub invariant-loop-b : goal.invariant-loop-b
invariant-loop-b l = l.bytes.items ≡ map (byte_in (all_shown l.shown)) (range_with_len 0 l.b)
