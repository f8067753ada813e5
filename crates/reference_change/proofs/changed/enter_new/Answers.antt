use Rattle.std.proofs.Common.{sym, ap, ◌∙◌}
use Rattle.value_trees.specs.Value.{members_of}
use Rattle.reference_change.specs.Private.Phases.{behind_exits, entered}
use Rattle.reference_change.specs.Private.Turn.{old_of, new_of}
use Rattle.reference_change.proofs.ChangeLaws.{ended_so, enters, refused_so}
use Rattle.reference_change.proofs.changed.enter_new.Goals as goal

pub returns-in-Ok : goal.returns-in-Ok
returns-in-Ok c =
    sym c.in-Ok.ensures
    ∙ enters (old_of c.args.t.now) (new_of c.args.t.now) (members_of c.args.before.now.store) c.args.before.now.ticks (members_of c.in_ok-store.store) (members_of c.begin-m.result.store) c.begin-m.result.ticks (ap members_of c.begin-m.ensures.store) c.begin-m.ensures.ticks c.in_ok-store.ensures

pub returns-in-Err : goal.returns-in-Err
returns-in-Err c =
    ended_so c.refused.result (entered (old_of c.args.t.now) (new_of c.args.t.now) (members_of c.args.before.now.store) (members_of c.begin-m.result.store) c.begin-m.result.ticks)
    (behind_exits (old_of c.args.t.now) (new_of c.args.t.now) (members_of c.args.before.now.store) c.args.before.now.ticks)
    (enters (old_of c.args.t.now) (new_of c.args.t.now) (members_of c.args.before.now.store) c.args.before.now.ticks (members_of c.in_ok-store.store) (members_of c.begin-m.result.store) c.begin-m.result.ticks (ap members_of c.begin-m.ensures.store) c.begin-m.ensures.ticks c.in_ok-store.ensures)
    (refused_so c.refused.result c.in-Err.halt _ c.come.new.m c.in-Err.ensures c.refused.ensures)
