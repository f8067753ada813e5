use Rattle.std.proofs.Common.{◌≡◌, ◌++◌, map}
use Rattle.std.specs.List.{range_with_len}
use Rattle.scenario.specs.Made.{made_cycle}
use Rattle.scenario.proofs.made.push_turn.Given as goal

abbrev pub invariant-loop-task : goal.invariant-loop-task
invariant-loop-task l = l.plays ≡ l.initial.plays ++ map (made_cycle l.now) (range_with_len 1 l.task)
