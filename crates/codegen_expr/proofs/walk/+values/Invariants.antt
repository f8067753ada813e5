use Rattle.std.proofs.Common.{◌≡◌, ◌++◌, drop}
use Rattle.st_tree.specs.Expression.{arguments_of, expressions_of, selectors_of, tails_of}
use Rattle.routine_tables.specs.Parameters.{parameters_of}
use Rattle.code_rules.specs.Code.{along_code, arguments_code, chained_code, indexed_code, outputs_code}
use Rattle.codegen_tables.specs.Context.{plan_in}
use Rattle.codegen_expr.proofs.walk.+values.Given as goal

abbrev pub invariant-emit_along-loop-selector : goal.invariant-emit_along-loop-selector
invariant-emit_along-loop-selector l = (l.cells.items ++ along_code (plan_in l.c) l.line l.free (selectors_of (drop l.selector-index l.selectors)) l.at) ≡ (l.initial.cells.items ++ along_code (plan_in l.c) l.line l.free (selectors_of l.selectors) l.kind)

abbrev pub invariant-emit_indexed-loop-index : goal.invariant-emit_indexed-loop-index
invariant-emit_indexed-loop-index l = (l.cells.items ++ indexed_code (plan_in l.c) l.line l.free (expressions_of (drop l.index-index l.indices)) l.at) ≡ (l.initial.cells.items ++ indexed_code (plan_in l.c) l.line l.free (expressions_of l.indices) l.kind)

abbrev pub invariant-emit_chained-loop-tail : goal.invariant-emit_chained-loop-tail
invariant-emit_chained-loop-tail l = (l.cells.items ++ chained_code (plan_in l.c) l.line l.free l.left (tails_of (drop l.tail-index l.tails))) ≡ (l.initial.cells.items ++ chained_code (plan_in l.c) l.line l.free l.kind (tails_of l.tails))

abbrev pub invariant-emit_arguments-loop-argument : goal.invariant-emit_arguments-loop-argument
invariant-emit_arguments-loop-argument l =
    (l.cells.items ++ arguments_code (plan_in l.c) l.line l.call.block l.cursor.free (parameters_of l.call.parameters.now) l.cursor.number (parameters_of l.cursor.left.now) (arguments_of (drop l.argument-index l.arguments)))
    ≡ (l.initial.cells.items ++ arguments_code (plan_in l.c) l.line l.call.block l.call.free (parameters_of l.call.parameters.now) 0 (parameters_of l.call.parameters.now) (arguments_of l.arguments))

abbrev pub invariant-emit_outputs-loop-argument : goal.invariant-emit_outputs-loop-argument
invariant-emit_outputs-loop-argument l =
    (l.cells.items ++ outputs_code (plan_in l.c) l.line l.call.block l.call.free (parameters_of l.call.parameters.now) l.call.whole.now (arguments_of (drop l.argument-index l.arguments)))
    ≡ (l.initial.cells.items ++ outputs_code (plan_in l.c) l.line l.call.block l.call.free (parameters_of l.call.parameters.now) l.call.whole.now (arguments_of l.arguments))
