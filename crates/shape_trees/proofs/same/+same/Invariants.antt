use Rattle.shape_trees.proofs.SameLaws.{SameSoFar}
use Rattle.shape_trees.proofs.same.+same.Given as goal

abbrev pub invariant-same_fields-loop-k : goal.invariant-same_fields-loop-k
invariant-same_fields-loop-k l = SameSoFar l.a l.b l.k
