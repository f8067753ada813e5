use Rattle.st_tree.specs.Expression.{tails_of}
use Rattle.constant_folding.specs.constant_values.Noted.{noted_row}
use Rattle.constant_folding.specs.constant_values.Outcome.{outcome}
use Rattle.constant_folding.proofs.constant_values.NotedLaws.{RowTo}
use Rattle.constant_folding.proofs.constant_values.noted.+noted.Given as goal

abbrev pub invariant-row_value-loop-tail : goal.invariant-row_value-loop-tail
invariant-row_value-loop-tail l = RowTo l.tails (noted_row (outcome l.fn.front) (tails_of l.tails)) (outcome l.so_far) l.tail-index
