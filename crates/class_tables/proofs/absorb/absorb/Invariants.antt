use Rattle.class_tables.proofs.AbsorbLaws.{AbsorbedTo}
use Rattle.class_tables.proofs.absorb.absorb.Given as goal

abbrev pub invariant-loop-k : goal.invariant-loop-k
invariant-loop-k l = AbsorbedTo l.rows l.names l.fn.store l.store l.class l.fn.below l.state l.k
