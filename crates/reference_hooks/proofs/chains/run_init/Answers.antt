use Rattle.st_values.specs.View.{program_of}
use Rattle.st_change.specs.Hook.{at_init, init_flags}
use Rattle.value_trees.specs.Value.{members_of}
use Rattle.reference_hooks.proofs.ChainLaws.{last_next, next, stops_all}
use Rattle.reference_hooks.proofs.chains.run_init.Goals as goal

pub classes-preserved : goal.classes-preserved
classes-preserved c =
    next _ _ _ _ (members_of c.run_own.new.m.store) c.run_own.new.m.ticks
    (last_next (program_of c.args.on.now.tables.now) at_init c.args.instance.now.path (init_flags c.args.copied) c.classes.left.now c.in-Some.behind.now c.in-Some.class.now (members_of c.classes.m.store) c.classes.m.ticks c.in-Some.ensures.cases.0)
    c.in-Ok-run_own.ensures c.classes.invariant

pub returns-in-Err : goal.returns-in-Err
returns-in-Err c =
    stops_all c.in-Err.halt _ _ _ _ c.run_own.new.m
    (last_next (program_of c.args.on.now.tables.now) at_init c.args.instance.now.path (init_flags c.args.copied) c.classes.left.now c.in-Some.behind.now c.in-Some.class.now (members_of c.classes.m.store) c.classes.m.ticks c.in-Some.ensures.cases.0)
    c.classes.invariant c.in-Err.ensures
