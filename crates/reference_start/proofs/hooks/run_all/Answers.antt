use Rattle.st_values.specs.View.{program_of}
use Rattle.value_trees.specs.Value.{members_of}
use Rattle.reference_start.proofs.StartLaws.{instances_at, instances_end, next, stops_all}
use Rattle.reference_start.proofs.hooks.run_all.Goals as goal

pub loop-instance-preserved : goal.loop-instance-preserved
loop-instance-preserved c =
    next _ _ _ _ (members_of c.run_chain.new.m.store) c.run_chain.new.m.ticks
    (instances_at (program_of c.args.on.now.tables.now) c.args.instances.now c.loop-instance.instance-index c.instance-item.result (members_of c.loop-instance.m.store) c.loop-instance.m.ticks c.loop-instance-test.true c.instance-item.is)
    c.in-Ok.ensures c.loop-instance.invariant

pub returns-in-Err : goal.returns-in-Err
returns-in-Err c =
    stops_all c.in-Err.halt _ _ _ _ c.run_chain.new.m
    (instances_at (program_of c.args.on.now.tables.now) c.args.instances.now c.loop-instance.instance-index c.instance-item.result (members_of c.loop-instance.m.store) c.loop-instance.m.ticks c.loop-instance-test.true c.instance-item.is)
    c.loop-instance.invariant c.in-Err.ensures

pub returns : goal.returns
returns c = instances_end (program_of c.args.on.now.tables.now) c.args.instances.now c.loop-instance.instance-index (members_of c.loop-instance.m.store) c.loop-instance.m.ticks _ c.loop-instance-test.false c.loop-instance.invariant
