use Rattle.declared_graph.proofs.InnerLaws.{InnerTo}
use Rattle.declared_graph.proofs.inner.constants.Given as goal

-- what is in the table is what the rest of the list has
abbrev pub invariant-places : goal.invariant-places
invariant-places l = InnerTo l.table l.names l.i

abbrev pub decreases-places : goal.decreases-places
decreases-places l = l.i
