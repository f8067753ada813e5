use Rattle.std.proofs.Common.{length}
use Rattle.check_limits.proofs.type_sizes.RoundLaws.{SizesTo, FitsClass}
use Rattle.check_limits.proofs.type_sizes.rounds.own_sizes.Given as goal

abbrev pub invariant-loop-class : goal.invariant-loop-class
invariant-loop-class l = SizesTo (FitsClass (length l.levels)) l.levels l.classes l.sizes.items l.class-index
