use Rattle.std.proofs.Common.{sym, ◌∙◌}
use Rattle.value_trees.specs.Value.{members_of}
use Rattle.run_state.specs.State.{undone}
use Rattle.run_state.proofs.Stores.{known, not_known}
use Rattle.run_state.proofs.log.remember.Goals as goal

pub returns-then-is_some : goal.returns-then-is_some
returns-then-is_some c = known c.args.log.now.whole c.args.log.now.replaced (members_of c.args.store.now) (undone (record { path = c.args.path.now; old = c.args.old }) (members_of c.args.store.now)) (sym c.is_some.ensures ∙ c.if-is_some.true)

pub keep-requires : goal.keep-requires
keep-requires c = not_known c.args.log.now.whole (sym c.is_some.ensures ∙ c.if-is_some.false)
