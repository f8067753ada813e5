use Rattle.default_values.proofs.structure_worths.RoundLaws.{RoundsTo}
use Rattle.default_values.proofs.structure_worths.rounds.weigh_structures.Given as goal

abbrev pub invariant-loop-below : goal.invariant-loop-below
invariant-loop-below g l = RoundsTo l.initial.table l.table (g.S.ConstantValues.scope l.values) l.initial.structures l.below l.structures
