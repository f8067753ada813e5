use Rattle.std.proofs.Common.{◌≡◌, ◌++◌, drop}
use Rattle.st_tree.specs.Expression.{expressions_of, selectors_of, arguments_of, tails_of}
use Rattle.st_values.specs.View.{program_of}
use Rattle.st_meaning.specs.st_frame.Use.{along_uses, index_uses, tail_uses, argument_uses}
use Rattle.routine_tables.specs.Parameters.{parameters_of}
use Rattle.body_uses.specs.Uses.{uses_of}
use Rattle.body_uses.proofs.expressions.+uses.Given as goal

abbrev pub invariant-add_along-loop-selector : goal.invariant-add_along-loop-selector
invariant-add_along-loop-selector l = (uses_of l.uses.items ++ along_uses (program_of l.c.tables.now) l.at (selectors_of (drop l.selector-index l.selectors))) ≡ (uses_of l.initial.uses.items ++ along_uses (program_of l.c.tables.now) l.kind (selectors_of l.selectors))

abbrev pub invariant-add_indices-loop-index : goal.invariant-add_indices-loop-index
invariant-add_indices-loop-index l = (uses_of l.uses.items ++ index_uses (program_of l.c.tables.now) (expressions_of (drop l.index-index l.indices))) ≡ (uses_of l.initial.uses.items ++ index_uses (program_of l.c.tables.now) (expressions_of l.indices))

abbrev pub invariant-add_tails-loop-tail : goal.invariant-add_tails-loop-tail
invariant-add_tails-loop-tail l = (uses_of l.uses.items ++ tail_uses (program_of l.c.tables.now) (tails_of (drop l.tail-index l.tails))) ≡ (uses_of l.initial.uses.items ++ tail_uses (program_of l.c.tables.now) (tails_of l.tails))

abbrev pub invariant-add_arguments-loop-argument : goal.invariant-add_arguments-loop-argument
invariant-add_arguments-loop-argument l =
    (uses_of l.uses.items ++ argument_uses (program_of l.c.tables.now) (parameters_of l.parameters) (parameters_of l.left) (arguments_of (drop l.argument-index l.arguments)))
    ≡ (uses_of l.initial.uses.items ++ argument_uses (program_of l.c.tables.now) (parameters_of l.parameters) (parameters_of l.parameters) (arguments_of l.arguments))
