use Rattle.st_values.specs.View.{program_of}
use Rattle.value_trees.specs.Value.{members_of}
use Rattle.reference_start.proofs.StartLaws.{chain_at, next, stops_all}
use Rattle.reference_start.proofs.hooks.run_chain.Goals as goal

pub classes-preserved : goal.classes-preserved
classes-preserved c =
    next _ _ _ _ (members_of c.run_own.new.m.store) c.run_own.new.m.ticks
    (chain_at (program_of c.args.on.now.tables.now) c.args.instance.now.path c.classes.left.now c.in-Some.behind.now c.in-Some.class.now (members_of c.classes.m.store) c.classes.m.ticks c.in-Some.ensures.cases.0) c.in-Ok-run_own.ensures c.classes.invariant

pub returns-in-Err : goal.returns-in-Err
returns-in-Err c =
    stops_all c.in-Err.halt _ _ _ _ c.run_own.new.m
    (chain_at (program_of c.args.on.now.tables.now) c.args.instance.now.path c.classes.left.now c.in-Some.behind.now c.in-Some.class.now (members_of c.classes.m.store) c.classes.m.ticks c.in-Some.ensures.cases.0) c.classes.invariant c.in-Err.ensures
