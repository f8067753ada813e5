use Rattle.check_limits.proofs.type_sizes.RoundLaws.{LevelsTo}
use Rattle.check_limits.proofs.type_sizes.sizes.levels_of.Given as goal

abbrev pub invariant-loop-step : goal.invariant-loop-step
invariant-loop-step l = LevelsTo l.names l.chains l.levels.items l._step
