use Rattle.std.proofs.Common.{length}
use Rattle.reference_hooks.proofs.ChainLaws.{FlagsLeft}
use Rattle.reference_hooks.proofs.given.give_flags.Given as goal

abbrev pub invariant-flags : goal.invariant-flags
invariant-flags l = FlagsLeft l.parameters l.flags l.given l.inputs l.left

abbrev pub decreases-flags : goal.decreases-flags
decreases-flags l = length l.left
