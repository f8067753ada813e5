use Rattle.std.proofs.Common.{length, ◌-◌}
use Rattle.plant_core.proofs.play_order.Lanes.{LeftFrom}
use Rattle.plant_core.proofs.play_order.tables.next_left.Given as goal

abbrev pub invariant-plays : goal.invariant-plays
invariant-plays l = LeftFrom l.following l.done l.from l.next

abbrev pub decreases-plays : goal.decreases-plays
decreases-plays l = length l.done - l.next
