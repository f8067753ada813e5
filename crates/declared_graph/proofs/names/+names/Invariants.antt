use Rattle.std.proofs.Common.{◌≡◌, ◌++◌, drop}
use Rattle.st_tree.specs.Expression.{tails_of, arguments_of, selectors_of, expressions_of}
use Rattle.st_unit_rules.specs.Cycles.{named_in_tails, named_in_arguments, named_in_selectors, named_in_expressions}
use Rattle.declared_graph.specs.Private.Names.{all_named}
use Rattle.declared_graph.proofs.names.+names.Given as goal

abbrev pub invariant-add_tails-loop-tail : goal.invariant-add_tails-loop-tail
invariant-add_tails-loop-tail l = all_named l.list.items ++ named_in_tails (tails_of (drop l.tail-index l.tails)) ≡ all_named l.initial.list.items ++ named_in_tails (tails_of l.tails)

abbrev pub invariant-add_arguments-loop-argument : goal.invariant-add_arguments-loop-argument
invariant-add_arguments-loop-argument l = all_named l.list.items ++ named_in_arguments (arguments_of (drop l.argument-index l.arguments)) ≡ all_named l.initial.list.items ++ named_in_arguments (arguments_of l.arguments)

abbrev pub invariant-add_selectors-loop-selector : goal.invariant-add_selectors-loop-selector
invariant-add_selectors-loop-selector l = all_named l.list.items ++ named_in_selectors (selectors_of (drop l.selector-index l.selectors)) ≡ all_named l.initial.list.items ++ named_in_selectors (selectors_of l.selectors)

abbrev pub invariant-add_indices-loop-index : goal.invariant-add_indices-loop-index
invariant-add_indices-loop-index l = all_named l.list.items ++ named_in_expressions (expressions_of (drop l.index-index l.indices)) ≡ all_named l.initial.list.items ++ named_in_expressions (expressions_of l.indices)
