use Rattle.st_types.proofs.WideningLaws.{NoneBefore}
use Rattle.st_types.proofs.widening.widen.Given as goal

abbrev pub invariant-loop-k : goal.invariant-loop-k
invariant-loop-k l = NoneBefore l.a l.b l.k-index
