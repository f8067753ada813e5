use Rattle.std.proofs.Common.{sym, ◌∙◌}
use Rattle.reference_plays.proofs.HeldLaws.{gone_next, gone_found, gone_never}
use Rattle.reference_plays.proofs.held.since.Goals as goal

pub loop-task-preserved : goal.loop-task-preserved
loop-task-preserved c = gone_next _ _ c.task-item.result _ _ c.loop-task-test.true c.task-item.is c.loop-task.invariant (sym c.is_same.ensures ∙ c.if-is_same.false)

pub returns-then-is_same : goal.returns-then-is_same
returns-then-is_same c = gone_found _ _ c.task-item.result _ _ c.loop-task-test.true c.task-item.is c.loop-task.invariant (sym c.is_same.ensures ∙ c.if-is_same.true)

pub returns : goal.returns
returns c = gone_never _ _ _ _ c.loop-task.invariant c.loop-task-test.false
