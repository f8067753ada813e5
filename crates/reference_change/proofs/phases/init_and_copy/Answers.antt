use Rattle.std.proofs.Common.{Err, refl, ◌∙◌}
use Rattle.value_trees.specs.Value.{members_of}
use Rattle.reference_hooks.proofs.ChainLaws.{ran_so}
use Rattle.reference_change.specs.Private.Turn.{old_of, new_of}
use Rattle.reference_change.specs.Private.Phases.{behind_inits}
use Rattle.reference_change.proofs.PhaseLaws.{goes_behind, stops_there, inits_run}
use Rattle.reference_change.proofs.phases.init_and_copy.Goals as goal

pub returns-in-Ok : goal.returns-in-Ok
returns-in-Ok c =
    goes_behind c.copy_and_reinit.result _ (behind_inits (old_of c.args.t.now) (new_of c.args.t.now) (members_of c.args.before.now)) (members_of c.run_inits.new.m.store) c.run_inits.new.m.ticks c.copy_and_reinit.new.m
    (inits_run (old_of c.args.t.now) (new_of c.args.t.now) c.args.instances.now c.args.instances.now refl (members_of c.args.m.now.store) c.args.m.now.ticks c.requires.are_coming ∙ c.in-Ok.ensures) c.copy_and_reinit.ensures

pub returns-in-Err : goal.returns-in-Err
returns-in-Err c =
    stops_there c.in-Err.halt _ (behind_inits (old_of c.args.t.now) (new_of c.args.t.now) (members_of c.args.before.now)) c.run_inits.new.m
    (ran_so (Err c.in-Err.halt) _ _ c.run_inits.new.m (inits_run (old_of c.args.t.now) (new_of c.args.t.now) c.args.instances.now c.args.instances.now refl (members_of c.args.m.now.store) c.args.m.now.ticks c.requires.are_coming) c.in-Err.ensures)
