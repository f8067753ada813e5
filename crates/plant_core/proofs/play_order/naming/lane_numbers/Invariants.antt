use Rattle.std.specs.Map.{keys_of}
use Rattle.plant_core.proofs.play_order.Lanes.{Naming}
use Rattle.plant_core.proofs.play_order.naming.lane_numbers.Given as goal

abbrev pub invariant-loop-play : goal.invariant-loop-play
invariant-loop-play l = Naming (keys_of l.names) l.plays l.play-index l.lanes.items
