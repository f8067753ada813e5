use Rattle.std.proofs.Common.{◌≡◌, ◌+◌, drop}
use Rattle.st_tree.specs.Expression.{tails_of, expressions_of, selectors_of, arguments_of}
use Rattle.st_rules.specs.Expressions.{tail_operators, index_operators, selector_operators, argument_operators}
use Rattle.check_nodes.proofs.count.+count.Given as goal

abbrev pub invariant-tails_left-loop-tail : goal.invariant-tails_left-loop-tail
invariant-tails_left-loop-tail l = l.left + tail_operators (tails_of l.tails) ≡ l.fn.room + tail_operators (tails_of (drop l.tail-index l.tails))

abbrev pub invariant-indices_left-loop-index : goal.invariant-indices_left-loop-index
invariant-indices_left-loop-index l = l.left + index_operators (expressions_of l.indices) ≡ l.fn.room + index_operators (expressions_of (drop l.index-index l.indices))

abbrev pub invariant-selectors_left-loop-selector : goal.invariant-selectors_left-loop-selector
invariant-selectors_left-loop-selector l = l.left + selector_operators (selectors_of l.selectors) ≡ l.fn.room + selector_operators (selectors_of (drop l.selector-index l.selectors))

abbrev pub invariant-arguments_left-loop-argument : goal.invariant-arguments_left-loop-argument
invariant-arguments_left-loop-argument l = l.left + argument_operators (arguments_of l.arguments) ≡ l.fn.room + argument_operators (arguments_of (drop l.argument-index l.arguments))
