use Rattle.std.proofs.Common.{◌≡◌, drop}
use Rattle.st_tree.specs.Expression.{expressions_of, selectors_of, tails_of}
use Rattle.code_rules.specs.Code.{are_quiet, tails_are_quiet, way_is_quiet}
use Rattle.codegen_expr.proofs.quiet.+quiet.Given as goal

abbrev pub invariant-way_is_quiet-loop-selector : goal.invariant-way_is_quiet-loop-selector
invariant-way_is_quiet-loop-selector l = way_is_quiet (selectors_of (drop l.selector-index l.selectors)) ≡ way_is_quiet (selectors_of l.selectors)

abbrev pub invariant-are_quiet-loop-index : goal.invariant-are_quiet-loop-index
invariant-are_quiet-loop-index l = are_quiet (expressions_of (drop l.index-index l.indices)) ≡ are_quiet (expressions_of l.indices)

abbrev pub invariant-tails_are_quiet-loop-tail : goal.invariant-tails_are_quiet-loop-tail
invariant-tails_are_quiet-loop-tail l = tails_are_quiet (tails_of (drop l.tail-index l.tails)) ≡ tails_are_quiet (tails_of l.tails)
