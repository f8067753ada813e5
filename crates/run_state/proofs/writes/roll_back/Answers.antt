use Rattle.std.proofs.Common.{ap, sym, ◌∙◌}
use Rattle.run_state.specs.State.{unwind, or_whole}
use Rattle.value_trees.specs.Value.{members_of}
use Rattle.run_state.proofs.Stores.{whole_is}
use Rattle.run_state.proofs.writes.roll_back.Goals as goal

pub returns-clause-store : goal.returns-clause-store
returns-clause-store c = whole_is c.args.m.now.undo.whole c.in-Some.whole (unwind c.args.m.now.undo.replaced (members_of c.args.m.now.store)) (sym c.in-Some.ensures.value)

pub returns-in_default-clause-store : goal.returns-in_default-clause-store
returns-in_default-clause-store c = c.take_back.ensures.store ∙ ap (λ o. or_whole o (unwind c.args.m.now.undo.replaced (members_of c.args.m.now.store))) c.in_default.ensures.value
