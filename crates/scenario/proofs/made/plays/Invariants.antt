use Rattle.std.proofs.Common.{◌≡◌}
use Rattle.scenario.specs.Made.{made_plays}
use Rattle.scenario.proofs.made.plays.Given as goal

abbrev pub invariant-loop-round : goal.invariant-loop-round
invariant-loop-round l = l.plays ≡ made_plays l.round
