use Rattle.std.proofs.Common.{true}
use Rattle.check_limits.proofs.type_sizes.RoundLaws.{KindsTo}
use Rattle.check_limits.proofs.type_sizes.rounds.fields_size.Given as goal

abbrev pub invariant-loop-field : goal.invariant-loop-field
invariant-loop-field l = KindsTo (λ f. f.kind) (λ f. true) l.levels l.fields l.size l.field-index
