use Rattle.std.proofs.Common.{length}
use Rattle.st_parser_stmt.proofs.Rules.{LabelsSoFar}
use Rattle.st_parser_stmt.proofs.label.labels.Given as goal

abbrev pub invariant-loop-alloc : goal.invariant-loop-alloc
invariant-loop-alloc l = LabelsSoFar l.found l.fn.tokens l.tokens

abbrev pub decreases-loop-alloc : goal.decreases-loop-alloc
decreases-loop-alloc l = length l.tokens
