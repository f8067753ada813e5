use Rattle.class_tables.proofs.ClimbLaws.{Climbing}
use Rattle.class_tables.proofs.chain.climb.Given as goal

abbrev pub invariant-loop-step : goal.invariant-loop-step
invariant-loop-step l = Climbing l.rows l.class l.classes.items l.held.items l.next l._step
