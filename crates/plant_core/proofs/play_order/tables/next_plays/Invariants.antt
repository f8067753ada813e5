use Rattle.plant_core.specs.play_order.Private.Tables.{AreLinked}
use Rattle.plant_core.proofs.play_order.tables.next_plays.Given as goal

abbrev pub invariant-plays : goal.invariant-plays
invariant-plays l = AreLinked l.lanes l.lists l.play l.following.items l.next.items

abbrev pub decreases-plays : goal.decreases-plays
decreases-plays l = l.play
