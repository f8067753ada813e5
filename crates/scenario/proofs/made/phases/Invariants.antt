use Rattle.std.proofs.Common.{◌≡◌}
use Rattle.scenario.specs.Reading.{phases_from}
use Rattle.scenario.proofs.MadeLaws.{counts_of}
use Rattle.scenario.proofs.made.phases.Given as goal

abbrev pub invariant-loop-round : goal.invariant-loop-round
invariant-loop-round l = l.phases ≡ phases_from 1 (counts_of l.round)
