use Rattle.std.proofs.Common.{refl, sym, ap, ◌∙◌}
use Rattle.std.specs.Prelude.{max}
use Rattle.st_tree.specs.Expression.{arguments_of, expression_of, expressions_of, selector_of, selectors_of, tail_of, tails_of}
use Rattle.routine_tables.specs.Parameters.{parameters_of}
use Rattle.code_rules.specs.Tops.{along_top, arguments_top, index_top, operand_top, outputs_top, selector_top, tails_top, value_top}
use Rattle.codegen_tables.specs.Context.{plan_in}
use Rattle.codegen_tops.proofs.ArmLaws.{call_arm, chain_arm, conversion_arm, operand_given, operand_input, operand_output, place_arm, told_same}
use Rattle.codegen_tops.proofs.TopLaws.{arguments_next, outputs_next, top_end, top_next}
use Rattle.codegen_tops.proofs.expressions.+tops.Goals as goal

pub along_top-loop-selector-preserved : goal.along_top-loop-selector-preserved
along_top-loop-selector-preserved t c =
    top_next (λ xs. along_top (plan_in c.args.c.now) c.args.free (selectors_of xs)) c.args.selectors.now c.loop-selector.selector-index c.selector-item.result c.loop-selector.most (selector_top (plan_in c.args.c.now) c.args.free (selector_of c.selector-item.result)) _ _ c.loop-selector-test.true c.selector-item.is refl (c.max-most.ensures ∙ ap (max c.loop-selector.most) c.in_ok-top.ensures) c.loop-selector.invariant

pub along_top-returns : goal.along_top-returns
along_top-returns t c = top_end (λ xs. along_top (plan_in c.args.c.now) c.args.free (selectors_of xs)) c.args.selectors.now c.loop-selector.selector-index c.loop-selector.most c.args.free _ _ refl c.loop-selector-test.false c.max.ensures c.loop-selector.invariant

pub index_top-loop-index-preserved : goal.index_top-loop-index-preserved
index_top-loop-index-preserved t c =
    top_next (λ xs. index_top (plan_in c.args.c.now) c.args.free (expressions_of xs)) c.args.indices.now c.loop-index.index-index c.index-item.result c.loop-index.most (value_top (plan_in c.args.c.now) c.args.free (expression_of c.index-item.result)) _ _ c.loop-index-test.true c.index-item.is refl (c.max-most.ensures ∙ ap (max c.loop-index.most) c.in_ok-top.ensures) c.loop-index.invariant

pub index_top-returns : goal.index_top-returns
index_top-returns t c = top_end (λ xs. index_top (plan_in c.args.c.now) c.args.free (expressions_of xs)) c.args.indices.now c.loop-index.index-index c.loop-index.most c.args.free _ _ refl c.loop-index-test.false c.max.ensures c.loop-index.invariant

pub tails_top-loop-tail-preserved : goal.tails_top-loop-tail-preserved
tails_top-loop-tail-preserved t c =
    top_next (λ xs. tails_top (plan_in c.args.c.now) c.args.free (tails_of xs)) c.args.tails.now c.loop-tail.tail-index c.tail-item.result c.loop-tail.most (value_top (plan_in c.args.c.now) c.args.free (tail_of c.tail-item.result).2) _ _ c.loop-tail-test.true c.tail-item.is refl (c.max-most.ensures ∙ ap (max c.loop-tail.most) c.in_ok-top.ensures) c.loop-tail.invariant

pub tails_top-returns : goal.tails_top-returns
tails_top-returns t c = top_end (λ xs. tails_top (plan_in c.args.c.now) c.args.free (tails_of xs)) c.args.tails.now c.loop-tail.tail-index c.loop-tail.most c.args.free _ _ refl c.loop-tail-test.false c.max.ensures c.loop-tail.invariant

pub arguments_top-loop-argument-preserved : goal.arguments_top-loop-argument-preserved
arguments_top-loop-argument-preserved t c =
    arguments_next (plan_in c.args.c.now) (parameters_of c.args.call.now.parameters.now) c.args.arguments.now c.loop-argument.argument-index c.argument-item.result c.loop-argument.cursor.free _ (parameters_of c.loop-argument.cursor.left.now) _ c.loop-argument.most _ _ _
    c.loop-argument-test.true c.argument-item.is c.in_ok-top.ensures c.max-most.ensures c.in_ok-cursor.ensures.left c.in_ok-cursor.ensures.free c.loop-argument.invariant

pub arguments_top-returns : goal.arguments_top-returns
arguments_top-returns t c =
    top_end (λ xs. arguments_top (plan_in c.args.c.now) c.loop-argument.cursor.free (parameters_of c.args.call.now.parameters.now) (parameters_of c.loop-argument.cursor.left.now) (arguments_of xs)) c.args.arguments.now c.loop-argument.argument-index c.loop-argument.most c.loop-argument.cursor.free _ _ refl
    c.loop-argument-test.false c.max.ensures c.loop-argument.invariant

pub outputs_top-loop-argument-preserved : goal.outputs_top-loop-argument-preserved
outputs_top-loop-argument-preserved t c =
    outputs_next (plan_in c.args.c.now) c.args.arguments.now c.loop-argument.argument-index c.argument-item.result c.args.free c.loop-argument.most _ _ _ c.loop-argument-test.true c.argument-item.is c.in_ok-top.ensures c.max-most.ensures c.loop-argument.invariant

pub outputs_top-returns : goal.outputs_top-returns
outputs_top-returns t c = top_end (λ xs. outputs_top (plan_in c.args.c.now) c.args.free (arguments_of xs)) c.args.arguments.now c.loop-argument.argument-index c.loop-argument.most c.args.free _ _ refl c.loop-argument-test.false c.max.ensures c.loop-argument.invariant

pub value_top-returns-in_ok-way-in-Place : goal.value_top-returns-in_ok-way-in-Place
value_top-returns-in_ok-way-in-Place t c =
    place_arm (plan_in c.args.c.now) c.args.free c.args.e.now c.max.result c.in-Place.a c.in-Place.place c.room_of.result _ _ c.in-Place.is c.room_of.ensures c.in_ok-behind-in-Place.ensures c.in_ok-way-in-Place.ensures c.max.ensures

pub value_top-returns-in_ok-others-in-Chain : goal.value_top-returns-in_ok-others-in-Chain
value_top-returns-in_ok-others-in-Chain t c =
    chain_arm (plan_in c.args.c.now) c.args.free c.args.e.now c.max-in-Chain.result c.in-Chain.field-0 c.in-Chain.first c.get-in-Chain.result.now c.in-Chain.tails c.as_slice.result.now _ _ c.in-Chain.is c.get-in-Chain.ensures c.as_slice.ensures c.in_ok-one-in-Chain.ensures c.in_ok-others-in-Chain.ensures
    c.max-in-Chain.ensures

pub value_top-returns-then-is_conversion : goal.value_top-returns-then-is_conversion
value_top-returns-then-is_conversion t c =
    conversion_arm (plan_in c.args.c.now) c.args.free c.args.e.now c.in-Call.a c.in-Call.place c.in-Call.arguments c.as_slice-arguments.result.now c.room_of-in-Call.result c.in_ok-block-in-Call.block c.in_ok-call-in-Call.call c.in-Call.is c.as_slice-arguments.ensures c.room_of-in-Call.ensures c.in_ok-block-in-Call.ensures c.in_ok-call-in-Call.ensures c.operand_top.result (sym c.is_conversion.ensures ∙ c.if-is_conversion.true) c.operand_top.ensures

pub value_top-returns-in_ok-left-in-Call : goal.value_top-returns-in_ok-left-in-Call
value_top-returns-in_ok-left-in-Call t c =
    call_arm (plan_in c.args.c.now) c.args.free c.args.e.now c.in-Call.a c.in-Call.place c.in-Call.arguments c.as_slice-arguments.result.now c.room_of-in-Call.result c.in_ok-block-in-Call.block c.in_ok-call-in-Call.call c.in-Call.is c.as_slice-arguments.ensures c.room_of-in-Call.ensures c.in_ok-block-in-Call.ensures c.in_ok-call-in-Call.ensures _ _ _ _ _ c.max-in-Call-3.result (sym c.is_conversion.ensures ∙ c.if-is_conversion.false) c.in_ok-way-in-Call.ensures c.in_ok-given-in-Call.ensures c.in_ok-left-in-Call.ensures c.max-in-Call.ensures c.max-in-Call-2.ensures c.max-in-Call-3.ensures

pub operand_top-returns-in-Positional : goal.operand_top-returns-in-Positional
operand_top-returns-in-Positional t c =
    told_same c.value_top.result (value_top (plan_in c.args.c.now) c.args.free (expression_of c.in-Positional.value)) (operand_top (plan_in c.args.c.now) c.args.free (arguments_of c.args.arguments.now)) (operand_given (plan_in c.args.c.now) c.args.free c.in-Some.first.now c.args.arguments.now c.in-Positional.value c.in-Some.ensures.value c.in-Positional.is) c.value_top.ensures

pub operand_top-returns-in-Input : goal.operand_top-returns-in-Input
operand_top-returns-in-Input t c = operand_input (plan_in c.args.c.now) c.args.free c.in-Some.first.now c.args.arguments.now c.in-Input.field-0 c.in-Input.field-1 c.in-Input.field-2 c.in-Some.ensures.value c.in-Input.is

pub operand_top-returns-in-Output : goal.operand_top-returns-in-Output
operand_top-returns-in-Output t c = operand_output (plan_in c.args.c.now) c.args.free c.in-Some.first.now c.args.arguments.now c.in-Output.field-0 c.in-Output.field-1 c.in-Output.field-2 c.in-Output.field-3 c.in-Some.ensures.value c.in-Output.is
