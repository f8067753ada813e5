use Rattle.std.proofs.Common.{◌+◌, List, ◌++◌, ap, ◌∙◌}
use Rattle.cycle_journal.specs.declared.play.Play.{Play}
use Rattle.scenario.specs.Made.{moment, made_turn}
use Rattle.scenario.proofs.MadeLaws.{flat_map-one_more}
use Rattle.scenario.proofs.made.push_cycles.Goals as goal

pub loop-turn-preserved : goal.loop-turn-preserved
loop-turn-preserved c =
    c.in_ok-push_turn.ensures
    ∙ ap (λ (plays : List Play). plays ++ made_turn (moment c.args.round (c.loop-turn.turn + 1))) c.loop-turn.invariant
    ∙ flat_map-one_more (λ turn. made_turn (moment c.args.round turn)) c.args.plays.now c.loop-turn.turn
