use Rattle.std.proofs.Common.{◌≡◌, length, take}
use Rattle.std.specs.Prelude.{flat_map}
use Rattle.check_regions.specs.shared_bits.Private.Spans.{TakesSpans, if_there}
use Rattle.check_regions.proofs.shared_bits.taken.take_names.Given as goal

abbrev pub invariant-loop-name : goal.invariant-loop-name
invariant-loop-name l = record {
  long : length l.marks.items ≡ 34_832;
  takes : TakesSpans l.initial.marks.items l.marks.items l.initial.found l.found (flat_map (λ n. if_there l.span) (take l._name-index l.names));
}
