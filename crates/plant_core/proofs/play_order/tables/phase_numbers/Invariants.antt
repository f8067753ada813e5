use Rattle.plant_core.proofs.play_order.Phases.{Numbering}
use Rattle.plant_core.proofs.play_order.tables.phase_numbers.Given as goal

abbrev pub invariant-loop-play : goal.invariant-loop-play
invariant-loop-play l = Numbering l.phases l.left l.play l.numbers.items
