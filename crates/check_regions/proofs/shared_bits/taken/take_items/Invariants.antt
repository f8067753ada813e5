use Rattle.std.proofs.Common.{◌≡◌, length, take}
use Rattle.std.specs.Prelude.{flat_map}
use Rattle.check_regions.specs.shared_bits.Private.Spans.{TakesSpans, item_spans}
use Rattle.check_regions.proofs.shared_bits.taken.take_items.Given as goal

abbrev pub invariant-loop-item : goal.invariant-loop-item
invariant-loop-item l = record {
  long : length l.marks.items ≡ 34_832;
  takes : TakesSpans l.initial.marks.items l.marks.items l.initial.found l.found (flat_map item_spans (take l.item-index l.items));
}
