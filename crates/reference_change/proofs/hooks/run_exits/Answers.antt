use Rattle.value_trees.specs.Value.{members_of}
use Rattle.reference_hooks.specs.Hooks.{member_of}
use Rattle.reference_hooks.proofs.ChainLaws.{next, stops_all}
use Rattle.reference_change.specs.Private.Phases.{exits_of}
use Rattle.reference_change.specs.Private.Turn.{old_of, new_of}
use Rattle.reference_change.proofs.HookLaws.{instances_at, instances_end}
use Rattle.reference_change.proofs.hooks.run_exits.Goals as goal

pub loop-instance-preserved : goal.loop-instance-preserved
loop-instance-preserved c =
    next _ _ _ _ (members_of c.exit_one.new.m.store) c.exit_one.new.m.ticks
    (instances_at (old_of c.args.t.now) (exits_of (old_of c.args.t.now) (new_of c.args.t.now)) (member_of (old_of c.args.t.now)) c.args.instances.now c.loop-instance.instance-index (members_of c.loop-instance.m.store) c.loop-instance.m.ticks c.instance-item.result c.loop-instance-test.true c.instance-item.is)
    c.in-Ok.ensures c.loop-instance.invariant

pub returns-in-Err : goal.returns-in-Err
returns-in-Err c =
    stops_all c.in-Err.halt _ _ _ _ c.exit_one.new.m
    (instances_at (old_of c.args.t.now) (exits_of (old_of c.args.t.now) (new_of c.args.t.now)) (member_of (old_of c.args.t.now)) c.args.instances.now c.loop-instance.instance-index (members_of c.loop-instance.m.store) c.loop-instance.m.ticks c.instance-item.result c.loop-instance-test.true c.instance-item.is)
    c.loop-instance.invariant c.in-Err.ensures

pub returns : goal.returns
returns c = instances_end (old_of c.args.t.now) (exits_of (old_of c.args.t.now) (new_of c.args.t.now)) (member_of (old_of c.args.t.now)) c.args.instances.now c.loop-instance.instance-index (members_of c.loop-instance.m.store) c.loop-instance.m.ticks _ c.loop-instance-test.false c.loop-instance.invariant
