use Rattle.value_trees.specs.Value.{members_of}
use Rattle.reference_start.proofs.StartLaws.{start_by, stopped_with}
use Rattle.reference_start.proofs.started.start.Goals as goal

pub returns-in-Ok : goal.returns-in-Ok
returns-in-Ok c =
    start_by c.args.on.now.tables.now c.args.on.now.program.now c.in_ok-instances.instances.items c.deref-2.result.now (members_of c.in_ok-store.store) _ c.requires.tables c.in_ok-instances.ensures c.deref-2.ensures.value c.in_ok-store.ensures c.in-Ok.ensures

pub returns-in-Stopped : goal.returns-in-Stopped
returns-in-Stopped c =
    start_by c.args.on.now.tables.now c.args.on.now.program.now c.in_ok-instances.instances.items c.deref-2.result.now (members_of c.in_ok-store.store) _ c.requires.tables c.in_ok-instances.ensures c.deref-2.ensures.value c.in_ok-store.ensures
    (stopped_with c.in-Err.halt c.in-Stopped.stopped _ c.run_all.new.m c.in-Stopped.is c.in-Err.ensures)
