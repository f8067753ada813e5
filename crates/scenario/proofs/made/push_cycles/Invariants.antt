use Rattle.std.proofs.Common.{◌≡◌, ◌++◌}
use Rattle.std.specs.List.{flat_map, range_with_len}
use Rattle.scenario.specs.Made.{moment, made_turn}
use Rattle.scenario.proofs.made.push_cycles.Given as goal

abbrev pub invariant-loop-turn : goal.invariant-loop-turn
invariant-loop-turn l = l.plays ≡ l.initial.plays ++ flat_map (λ turn. made_turn (moment l.round turn)) (range_with_len 1 l.turn)
