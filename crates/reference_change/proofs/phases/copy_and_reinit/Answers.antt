use Rattle.std.proofs.Common.{refl, sym, ap, ◌∙◌}
use Rattle.value_trees.specs.Value.{members_of}
use Rattle.reference_hooks.proofs.ChainLaws.{ran_so}
use Rattle.reference_change.specs.Private.Turn.{old_of, new_of}
use Rattle.st_change.specs.Change.{coming, reinits}
use Rattle.st_change.specs.Hook.{run_hooks}
use Rattle.reference_change.proofs.PhaseLaws.{reinits_run}
use Rattle.reference_change.proofs.phases.copy_and_reinit.Goals as goal

pub returns : goal.returns
returns c =
    ran_so c.run_reinits.result _ _ c.run_reinits.new.m
    (ap (λ s. run_hooks (new_of c.args.t.now) (reinits (old_of c.args.t.now) (new_of c.args.t.now) (coming (old_of c.args.t.now) (new_of c.args.t.now))) s c.args.m.now.ticks) (sym c.in-Ok.ensures)
    ∙ reinits_run (old_of c.args.t.now) (new_of c.args.t.now) c.args.instances.now c.args.instances.now refl (members_of c.carry_store.new.held) c.args.m.now.ticks c.requires.are_coming) c.run_reinits.ensures
