use Rattle.std.proofs.Common.{◌≡◌, drop}
use Rattle.std.specs.Prelude.{max}
use Rattle.st_tree.specs.Expression.{arguments_of, expressions_of, selectors_of, tails_of}
use Rattle.routine_tables.specs.Parameters.{parameters_of}
use Rattle.code_rules.specs.Tops.{along_top, arguments_top, index_top, outputs_top, tails_top}
use Rattle.codegen_tables.specs.Context.{plan_in}
use Rattle.codegen_tops.proofs.expressions.+tops.Given as goal

abbrev pub invariant-along_top-loop-selector : goal.invariant-along_top-loop-selector
invariant-along_top-loop-selector l = max l.most (along_top (plan_in l.c) l.free (selectors_of (drop l.selector-index l.selectors))) ≡ along_top (plan_in l.c) l.free (selectors_of l.selectors)

abbrev pub invariant-index_top-loop-index : goal.invariant-index_top-loop-index
invariant-index_top-loop-index l = max l.most (index_top (plan_in l.c) l.free (expressions_of (drop l.index-index l.indices))) ≡ index_top (plan_in l.c) l.free (expressions_of l.indices)

abbrev pub invariant-tails_top-loop-tail : goal.invariant-tails_top-loop-tail
invariant-tails_top-loop-tail l = max l.most (tails_top (plan_in l.c) l.free (tails_of (drop l.tail-index l.tails))) ≡ tails_top (plan_in l.c) l.free (tails_of l.tails)

abbrev pub invariant-arguments_top-loop-argument : goal.invariant-arguments_top-loop-argument
invariant-arguments_top-loop-argument l =
    max l.most (arguments_top (plan_in l.c) l.cursor.free (parameters_of l.call.parameters.now) (parameters_of l.cursor.left.now) (arguments_of (drop l.argument-index l.arguments)))
    ≡ arguments_top (plan_in l.c) l.call.free (parameters_of l.call.parameters.now) (parameters_of l.call.parameters.now) (arguments_of l.arguments)

abbrev pub invariant-outputs_top-loop-argument : goal.invariant-outputs_top-loop-argument
invariant-outputs_top-loop-argument l = max l.most (outputs_top (plan_in l.c) l.free (arguments_of (drop l.argument-index l.arguments))) ≡ outputs_top (plan_in l.c) l.free (arguments_of l.arguments)
