use Rattle.std.proofs.Common.{◌+◌, List, [], ◌∷◌, ◌++◌, ap, ◌∙◌}
use Rattle.cycle_journal.specs.declared.play.Play.{Play}
use Rattle.scenario.specs.Made.{made_cycle}
use Rattle.scenario.proofs.MadeLaws.{map-one_more}
use Rattle.scenario.proofs.made.push_turn.Goals as goal

pub loop-task-preserved : goal.loop-task-preserved
loop-task-preserved c =
    c.in_ok-push.ensures.ok ∙ ap (λ (play : Play). c.loop-task.plays ++ play ∷ []) c.in_ok-cycle.ensures
    ∙ ap (λ (plays : List Play). plays ++ made_cycle c.args.now (c.loop-task.task + 1) ∷ []) c.loop-task.invariant
    ∙ map-one_more (made_cycle c.args.now) c.args.plays.now c.loop-task.task
