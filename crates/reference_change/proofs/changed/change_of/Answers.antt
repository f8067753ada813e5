use Rattle.std.proofs.Common.{Err, sym, ap, ◌∙◌}
use Rattle.value_trees.specs.Value.{members_of}
use Rattle.st_meaning.specs.Cycle.{all_ticks}
use Rattle.st_change.specs.Change as words
use Rattle.st_change.specs.Hook.{run_hooks}
use Rattle.reference_hooks.proofs.ChainLaws.{ran_so}
use Rattle.reference_change.specs.Private.Phases.{behind_exits}
use Rattle.reference_change.specs.Private.Turn.{old_of, new_of}
use Rattle.reference_change.proofs.PhaseLaws.{stops_there}
use Rattle.reference_change.proofs.ChangeLaws.{ended_so, exits_from, goes_on, refused_so}
use Rattle.reference_change.proofs.changed.change_of.Goals as goal

pub returns-in-Ok : goal.returns-in-Ok
returns-in-Ok c =
    ended_so c.enter_new.result (behind_exits (old_of c.args.t.now) (new_of c.args.t.now) (members_of c.leave.new.m.store) c.leave.new.m.ticks)
    (words.change (old_of c.args.t.now) (new_of c.args.t.now) (members_of c.args.store.now))
    (goes_on (old_of c.args.t.now) (new_of c.args.t.now) (members_of c.args.store.now) (members_of c.leave.new.m.store) c.leave.new.m.ticks
    (sym (exits_from (old_of c.args.t.now) (new_of c.args.t.now) (members_of c.args.store.now) (members_of c.in_ok-copy.copy) (members_of c.begin-before.result.store) c.begin-before.result.ticks (ap members_of c.begin-before.ensures.store) (ap members_of c.in_ok-copy.ensures) c.begin-before.ensures.ticks)
    ∙ c.in-Ok.ensures))
    c.enter_new.ensures

pub returns : goal.returns
returns c =
    refused_so c.refused.result c.in-Err.halt (words.change (old_of c.args.t.now) (new_of c.args.t.now) (members_of c.args.store.now)) c.leave.new.m
    (stops_there c.in-Err.halt (run_hooks (old_of c.args.t.now) (words.exits (old_of c.args.t.now) (new_of c.args.t.now) (words.leaving (old_of c.args.t.now) (new_of c.args.t.now))) (members_of c.args.store.now) all_ticks)
    (behind_exits (old_of c.args.t.now) (new_of c.args.t.now)) c.leave.new.m
    (ran_so (Err c.in-Err.halt) _ _ c.leave.new.m
    (sym (exits_from (old_of c.args.t.now) (new_of c.args.t.now) (members_of c.args.store.now) (members_of c.in_ok-copy.copy) (members_of c.begin-before.result.store) c.begin-before.result.ticks (ap members_of c.begin-before.ensures.store) (ap members_of c.in_ok-copy.ensures) c.begin-before.ensures.ticks))
    c.in-Err.ensures))
    c.refused.ensures
