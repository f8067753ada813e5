use Rattle.value_trees.specs.Value.{members_of}
use Rattle.reference_hooks.proofs.ChainLaws.{ran_so}
use Rattle.reference_change.specs.Private.Turn.{old_of, new_of}
use Rattle.reference_change.proofs.PhaseLaws.{exits_run}
use Rattle.reference_change.proofs.phases.exit_all.Goals as goal

pub returns : goal.returns
returns c =
    ran_so c.run_exits.result _ _ c.run_exits.new.m
    (exits_run (old_of c.args.t.now) (new_of c.args.t.now) c.in-Ok.instances.items c.deref.result.now c.deref.ensures.value (members_of c.args.m.now.store) c.args.m.now.ticks c.in-Ok.ensures) c.run_exits.ensures
