use Rattle.value_trees.specs.Value.{members_of}
use Rattle.run_state.proofs.Stores.{remembered}
use Rattle.run_state.proofs.writes.put.Goals as goal

pub returns-in-Ok-clause-base : goal.returns-in-Ok-clause-base
returns-in-Ok-clause-base c =
    remembered c.args.m.now.undo.whole c.args.m.now.undo.replaced c.in-Region.path c.in-Some.old (members_of c.args.m.now.store) (members_of c.put_region.new.store) _ c.in-Some.ensures.1 c.in-Ok.ensures
