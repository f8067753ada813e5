use Rattle.std.proofs.Common.{◌≡◌, drop}
use Rattle.st_tree.specs.Expression.{tails_of}
use Rattle.st_rules.specs.Expressions.{are_untyped}
use Rattle.check_nodes.proofs.untyped.+untyped.Given as goal

abbrev pub invariant-are_untyped-loop-tail : goal.invariant-are_untyped-loop-tail
invariant-are_untyped-loop-tail l = are_untyped (tails_of (drop l.tail-index l.tails)) ≡ are_untyped (tails_of l.tails)
