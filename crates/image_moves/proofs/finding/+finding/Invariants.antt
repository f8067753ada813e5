use Rattle.std.proofs.Common.{◌≡◌, drop}
use Rattle.image_moves.specs.Ways.{led_in}
use Rattle.image_moves.specs.WayViews.{parts_of}
use Rattle.image_moves.proofs.finding.+finding.Given as goal

abbrev pub invariant-find_part-loop-part : goal.invariant-find_part-loop-part
invariant-find_part-loop-part l = led_in (parts_of (drop l.part-index l.parts)) l.offset ≡ led_in (parts_of l.parts) l.offset
