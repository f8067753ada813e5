use Rattle.type_resolution.proofs.told_locals.LeftLaws.{LeftTo}
use Rattle.type_resolution.proofs.told_locals.rounds.nothing_left.Given as goal

abbrev pub invariant-loop-i : goal.invariant-loop-i
invariant-loop-i l = LeftTo l.known l.next l.i
