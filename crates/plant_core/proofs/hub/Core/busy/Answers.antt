use Rattle.std.proofs.Common.{◌≡◌, ◌∙◌, ap, arith}
use Rattle.plant_rules.specs.History.{state_of}
use Rattle.plant_core.proofs.CauseLaws.{at_once, version_is, best_begun, best_with, best_all}
use Rattle.plant_core.proofs.hub.Core.busy.Goals as goal

pub loop-other-init : goal.loop-other-init
loop-other-init g c =
    best_begun g.P.Controlled.meaning g.met.P.Controlled.frames c.args.self.now.script (state_of g.P.Controlled.meaning c.args.self.now) (let k = at_once _ _ _ _ _ c.self.view_is c.self.invariant in k.holds.sound) c.args.task

pub meeting-requires : goal.meeting-requires
meeting-requires g c =
    let k = at_once _ _ _ _ _ c.self.view_is c.self.invariant in
    let same : c.task_count-other-end.result ≡ g.P.Controlled.meaning.tasks (state_of g.P.Controlled.meaning c.args.self.now).version = c.task_count-other-end.ensures ∙ ap g.P.Controlled.meaning.tasks (version_is _ _ _ _ _ k c.deref.ensures) in
    let t = c.loop-other-test.true in
    record { task = c.requires; other = omega (arith, same, t) }

pub loop-other-preserved : goal.loop-other-preserved
loop-other-preserved g c =
    rw c.nearer-best.ensures (best_with g.P.Controlled.meaning g.met.P.Controlled.frames c.args.self.now.script (state_of g.P.Controlled.meaning c.args.self.now) (let k = at_once _ _ _ _ _ c.self.view_is c.self.invariant in k.holds.sound) c.args.task c.loop-other.other c.loop-other.best c.meeting.result c.loop-other.invariant c.meeting.ensures)

pub returns : goal.returns
returns g c =
    let k = at_once _ _ _ _ _ c.self.view_is c.self.invariant in
    let same : c.task_count-other-end.result ≡ g.P.Controlled.meaning.tasks (state_of g.P.Controlled.meaning c.args.self.now).version = c.task_count-other-end.ensures ∙ ap g.P.Controlled.meaning.tasks (version_is _ _ _ _ _ k c.deref.ensures) in
    let a = c.loop-other-test.false in
    let b = c.loop-other.auto.other-end in
    best_all g.P.Controlled.meaning g.met.P.Controlled.frames c.args.self.now.script (state_of g.P.Controlled.meaning c.args.self.now) k.holds.sound c.args.task c.loop-other.other c.loop-other.best (omega (arith, same, a, b)) c.loop-other.invariant
