use Rattle.value_trees.specs.Value.{members_of}
use Rattle.run_state.specs.State.{before, undone}
use Rattle.run_state.proofs.Stores.{added, ok_behind}
use Rattle.run_state.proofs.log.keep.Goals as goal

pub returns-then-log-gt0 : goal.returns-then-log-gt0
returns-then-log-gt0 c = added c.args.log.now.whole c.args.log.now.replaced _ c.args.path.now c.in_ok-path.path c.args.old (members_of c.args.store.now) c.in_ok-push.ensures.ok c.in_ok-path.ensures

pub returns : goal.returns
returns c =
    ok_behind c.shorten.result _ _ (before c.args.log.now (undone (record { path = c.args.path.now; old = c.args.old }) (members_of c.args.store.now))) c.shorten.ensures
    (added c.args.log.now.whole c.args.log.now.replaced _ c.args.path.now c.in_ok-path.path c.args.old (members_of c.args.store.now) c.in_ok-push.ensures.ok c.in_ok-path.ensures)
