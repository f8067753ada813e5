use Rattle.std.proofs.Common.{◌≡◌, length, take}
use Rattle.std.specs.Prelude.{flat_map}
use Rattle.check_regions.specs.shared_bits.Private.Spans.{TakesSpans, section_spans}
use Rattle.check_regions.proofs.shared_bits.taken.take_all.Given as goal

abbrev pub invariant-loop-section : goal.invariant-loop-section
invariant-loop-section l = record {
  long : length l.marks.items ≡ 34_832;
  takes : TakesSpans l.initial.marks.items l.marks.items l.initial.found l.found (flat_map section_spans (take l.section-index l.sections));
}
