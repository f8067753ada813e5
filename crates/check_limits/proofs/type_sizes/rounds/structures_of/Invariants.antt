use Rattle.std.proofs.Common.{length}
use Rattle.check_limits.proofs.type_sizes.RoundLaws.{SizesTo, FitsPart}
use Rattle.check_limits.proofs.type_sizes.rounds.structures_of.Given as goal

abbrev pub invariant-loop-part : goal.invariant-loop-part
invariant-loop-part l = SizesTo (FitsPart (length l.levels)) l.levels l.parts l.sizes.items l.part-index
