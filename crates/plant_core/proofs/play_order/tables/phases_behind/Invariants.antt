use Rattle.plant_core.proofs.play_order.Phases.{Passed}
use Rattle.plant_core.proofs.play_order.tables.phases_behind.Given as goal

abbrev pub invariant-loop-phase : goal.invariant-loop-phase
invariant-loop-phase l = Passed l.phases l.play l.n l.phase-index
