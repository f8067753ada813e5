use Rattle.resolution_order.specs.told_laws.LocalLaws.{SoundLocals}
use Rattle.type_resolution.specs.told_locals.Around.{scope_around, all_told}
use Rattle.type_resolution.proofs.told_locals.rounds.settle.Given as goal

abbrev pub invariant-loop-round : goal.invariant-loop-round
invariant-loop-round l = SoundLocals l.known (all_told l.of (scope_around l.around))
