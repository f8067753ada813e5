use Rattle.std.proofs.Common.{◌+◌, List, [], ◌++◌, ap, ◌∙◌}
use Rattle.cycle_journal.specs.declared.play.Play.{Play}
use Rattle.scenario.specs.Made.{made_round}
use Rattle.scenario.proofs.MadeLaws.{flat_map-one_more}
use Rattle.scenario.proofs.made.plays.Goals as goal

pub loop-round-preserved : goal.loop-round-preserved
loop-round-preserved c =
    c.in_ok-push_round.ensures ∙ ap (λ (plays : List Play). plays ++ made_round (c.loop-round.round + 1)) c.loop-round.invariant
    ∙ flat_map-one_more made_round [] c.loop-round.round
