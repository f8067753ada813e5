use Rattle.initial_trees.proofs.GivenLaws.{from_next}
use Rattle.initial_trees.proofs.given.places.Goals as goal

pub inits-preserved : goal.inits-preserved
inits-preserved c = from_next c.args.inits.now c.inits.i c.inits.table c.put_name.new.table c.index-inits-i.result c.inits-test.true c.index-inits-i.is c.inits.invariant c.in_ok-put_name.ensures
