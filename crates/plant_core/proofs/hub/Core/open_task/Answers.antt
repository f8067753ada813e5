use Rattle.std.proofs.Common.{◌≡◌, ◌<◌, ◌∙◌, ap, arith, below_more}
use Rattle.plant_rules.specs.History.{state_of}
use Rattle.plant_core.proofs.CauseLaws.{at_once, version_is}
use Rattle.plant_core.proofs.hub.Core.open_task.Goals as goal

pub is_open-requires : goal.is_open-requires
is_open-requires g c =
    let k = at_once _ _ _ _ _ c.self.view_is c.self.invariant in
    let same : c.task_count-task-end.result ≡ g.P.Controlled.meaning.tasks (state_of g.P.Controlled.meaning c.args.self.now).version = c.task_count-task-end.ensures ∙ ap g.P.Controlled.meaning.tasks (version_is _ _ _ _ _ k c.deref.ensures) in
    let t = c.loop-task-test.true in
    omega (arith, same, t)

pub returns : goal.returns
returns g c =
    let k = at_once _ _ _ _ _ c.self.view_is c.self.invariant in
    let same : c.task_count-task-end.result ≡ g.P.Controlled.meaning.tasks (state_of g.P.Controlled.meaning c.args.self.now).version = c.task_count-task-end.ensures ∙ ap g.P.Controlled.meaning.tasks (version_is _ _ _ _ _ k c.deref.ensures) in
    λ t h. let low = k.holds.sound.below t h in let i : t < c.loop-task.task = let b = c.loop-task-test.false in omega (arith, low, b, same) in c.loop-task.invariant t i h

pub returns-then-is_open : goal.returns-then-is_open
returns-then-is_open g c =
    (c.if-is_open.ensures, c.loop-task.invariant)

pub loop-task-preserved : goal.loop-task-preserved
loop-task-preserved g c =
    below_more _ _ c.loop-task.invariant c.if-is_open.ensures
