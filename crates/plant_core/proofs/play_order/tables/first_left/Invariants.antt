use Rattle.std.proofs.Common.{length, ◌-◌}
use Rattle.plant_core.proofs.play_order.Lanes.{LeastFrom}
use Rattle.plant_core.proofs.play_order.tables.first_left.Given as goal

abbrev pub invariant-plays : goal.invariant-plays
invariant-plays l = LeastFrom l.done l.from l.first

abbrev pub decreases-plays : goal.decreases-plays
decreases-plays l = length l.done - l.first
