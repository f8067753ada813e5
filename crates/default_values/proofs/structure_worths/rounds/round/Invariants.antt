use Rattle.default_values.specs.structure_worths.Private.Rounds.{TriesTo}
use Rattle.default_values.proofs.structure_worths.rounds.round.Given as goal

abbrev pub invariant-loop-number : goal.invariant-loop-number
invariant-loop-number g l = TriesTo l.initial.table l.table (g.S.ConstantValues.scope l.values) l.below l.initial.structures 0 l.structures l.number
