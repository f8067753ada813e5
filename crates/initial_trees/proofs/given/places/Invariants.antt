use Rattle.initial_trees.proofs.GivenLaws.{FromHere}
use Rattle.initial_trees.proofs.given.places.Given as goal

abbrev pub invariant-inits : goal.invariant-inits
invariant-inits l = FromHere l.inits l.i l.table

abbrev pub decreases-inits : goal.decreases-inits
decreases-inits l = l.i
