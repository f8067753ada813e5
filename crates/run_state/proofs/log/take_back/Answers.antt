use Rattle.std.proofs.Common.{sym, ap, ◌∙◌}
use Rattle.value_trees.specs.Value.{members_of}
use Rattle.run_state.specs.State.{unwind}
use Rattle.run_state.proofs.Stores.{rolled}
use Rattle.run_state.proofs.log.take_back.Goals as goal

pub loop-last-preserved : goal.loop-last-preserved
loop-last-preserved c =
    rolled c.pop.new.self c.in-Some.last (members_of c.loop-last.store) (members_of c.restore.new.store) c.restore.ensures
    ∙ ap (λ us. unwind us (members_of c.loop-last.store)) (sym c.in-Some.ensures) ∙ c.loop-last.invariant
