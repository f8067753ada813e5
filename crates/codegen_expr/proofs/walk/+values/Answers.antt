use Rattle.std.proofs.Common.{◌++◌, Some, refl, sym, ap, ◌∙◌}
use Rattle.std.proofs.lemmas.Result.{on_ok_weaker}
use Rattle.st_tree.specs.Expression.{argument_of, argument_of-Positional, argument_of-Input, argument_of-Output, arguments_of, expression_of, expression_of-Int, expression_of-Typed, expression_of-Time, expression_of-True, expression_of-False, expression_of-Null, expression_of-Place, expression_of-Call, expression_of-Enumerator, expression_of-Ref, expression_of-Now, expression_of-Paren, expression_of-Not, expression_of-Negate, expression_of-Chain, place_of}
use Rattle.st_values.specs.Initial.{note_of}
use Rattle.call_steps.specs.Callee.{callee_seen}
use Rattle.routine_tables.specs.Parameters.{parameters_of}
use Rattle.code_rules.specs.Code.{bound_code, value_code}
use Rattle.codegen_tables.specs.Context.{plan_in}
use Rattle.codegen_parts.specs.Steps.{argument_code, one_output_code}
use Rattle.codegen_parts.proofs.CodeLaws.{adds_nothing}
use Rattle.codegen_expr.proofs.WalkLaws.{place_goes, not_goes, chain_goes, index_goes, positional_goes, input_goes, output_goes, chained_next, and_goes, or_goes, strict_goes}
use Rattle.codegen_expr.proofs.CallLaws.{arguments_next, base_given, call_goes, called_goes, conversion_goes, other_given, outputs_next}
use Rattle.codegen_expr.proofs.GivenLaws.{bound_given, named_given, output_taken, positional_given, value_given}
use Rattle.codegen_expr.proofs.walk.+values.Goals as goal

pub emit_place-returns : goal.emit_place-returns
emit_place-returns t c = place_goes (plan_in c.args.c.now) c.args.line c.args.free c.args.place.now c.as_slice.result.now c.root_note.result.now _ _ _ c.as_slice.ensures c.root_note.ensures c.in_ok-emit_root.ensures c.in_ok-emit_along.ensures

pub emit_index-returns : goal.emit_index-returns
emit_index-returns t c =
    on_ok_weaker c.does.result (λ h. index_goes (plan_in c.args.c.now) c.args.line c.args.free (expression_of c.args.index.now) c.args.kind.now c.index_op.result _ _ _ c.in_ok-emit_value.ensures c.index_op.ensures h) c.does.ensures

pub emit_value-returns-in_ok-does-in-Not : goal.emit_value-returns-in_ok-does-in-Not
emit_value-returns-in_ok-does-in-Not t c =
    not_goes (plan_in c.args.c.now) c.args.line c.args.free c.args.e.now c.in-Not.a c.in-Not.inner c.get-in-Not.result.now c.elem_of.result _ _ _ c.in-Not.is c.get-in-Not.ensures c.in_ok-emit_value-in-Not.ensures c.elem_of.ensures c.in_ok-does-in-Not.ensures

pub emit_value-returns-in_ok-emit_chained-in-Chain : goal.emit_value-returns-in_ok-emit_chained-in-Chain
emit_value-returns-in_ok-emit_chained-in-Chain t c =
    chain_goes (plan_in c.args.c.now) c.args.line c.args.free c.args.e.now c.in-Chain.field-0 c.in-Chain.first c.get-in-Chain.result.now c.get-in-Chain-2.result.now c.in-Chain.tails c.as_slice.result.now c.expression_note.result.now _ _ _ c.in-Chain.is
    c.get-in-Chain.ensures c.get-in-Chain-2.ensures c.as_slice.ensures c.expression_note.ensures c.in_ok-emit_value-in-Chain.ensures c.in_ok-emit_chained-in-Chain.ensures

pub emit_chained-loop-tail-preserved : goal.emit_chained-loop-tail-preserved
emit_chained-loop-tail-preserved t c =
    chained_next (plan_in c.args.c.now) c.args.line c.args.free c.args.tails.now c.loop-tail.tail-index c.tail-item.result c.loop-tail.left.now c.loop-tail.cells.items _ _ c.loop-tail-test.true c.tail-item.is c.in_ok-emit_tail.ensures c.loop-tail.invariant

pub emit_converted-returns-in_ok-emit_value-in-Positional : goal.emit_converted-returns-in_ok-emit_value-in-Positional
emit_converted-returns-in_ok-emit_value-in-Positional t c =
    on_ok_weaker c.does.result (λ h. positional_goes (plan_in c.args.c.now) c.args.line c.args.free c.in-Some.first.now c.args.arguments.now c.args.kind.now c.args.cells.now.items c.in-Positional.value c.expression_note.result.now c.number_kind-from.result c.elem_of.result _ _
    c.in-Some.ensures.value c.in-Positional.is c.expression_note.ensures c.number_kind-from.ensures c.elem_of.ensures c.in_ok-emit_value-in-Positional.ensures h) c.does.ensures

pub emit_converted-returns-in-Input : goal.emit_converted-returns-in-Input
emit_converted-returns-in-Input t c =
    input_goes (plan_in c.args.c.now) c.args.line c.args.free c.in-Some.first.now c.args.arguments.now c.args.kind.now c.args.cells.now.items c.in-Input.field-0 c.in-Input.field-1 c.in-Input.field-2 c.in-Some.ensures.value c.in-Input.is

pub emit_converted-returns-in-Output : goal.emit_converted-returns-in-Output
emit_converted-returns-in-Output t c =
    output_goes (plan_in c.args.c.now) c.args.line c.args.free c.in-Some.first.now c.args.arguments.now c.args.kind.now c.args.cells.now.items c.in-Output.field-0 c.in-Output.field-1 c.in-Output.field-2 c.in-Output.field-3 c.in-Some.ensures.value c.in-Output.is

pub emit_tail-returns-in_ok-emit_value-in-AndThen : goal.emit_tail-returns-in_ok-emit_value-in-AndThen
emit_tail-returns-in_ok-emit_value-in-AndThen t c =
    on_ok_weaker c.close_and.result (λ h. and_goes (plan_in c.args.c.now) c.args.line c.args.free c.args.tail.now c.args.left.now c.args.cells.now.items _ _ _ _ _ _ _ c.in-AndThen.is (c.len-at.ensures ∙ c.args.cells.now.ok.0) c.emit_value.new.cells.ok.0
    c.in_ok-does-in-AndThen.ensures c.in_ok-push-in-AndThen.ensures c.in_ok-does-in-AndThen-2.ensures c.in_ok-emit_value-in-AndThen.ensures h) c.close_and.ensures

pub emit_tail-returns-in_ok-emit_value-in-OrElse : goal.emit_tail-returns-in_ok-emit_value-in-OrElse
emit_tail-returns-in_ok-emit_value-in-OrElse t c =
    on_ok_weaker c.close_or.result (λ h. or_goes (plan_in c.args.c.now) c.args.line c.args.free c.args.tail.now c.args.left.now c.args.cells.now.items _ _ _ _ _ _ _ _ c.in-OrElse.is (c.len-at-in-OrElse.ensures ∙ c.args.cells.now.ok.0) c.emit_value-in-OrElse.new.cells.ok.0
    c.in_ok-does-in-OrElse.ensures c.in_ok-push-in-OrElse.ensures c.in_ok-push-in-OrElse-2.ensures c.in_ok-does-in-OrElse-2.ensures c.in_ok-emit_value-in-OrElse.ensures h) c.close_or.ensures

pub emit_tail-returns-in_ok-emit_value-in_default : goal.emit_tail-returns-in_ok-emit_value-in_default
emit_tail-returns-in_ok-emit_value-in_default t c =
    on_ok_weaker c.emit_operator.result (λ h. strict_goes (plan_in c.args.c.now) c.args.line c.args.free c.args.tail.now c.args.left.now _ _ _ c.in_default.not-AndThen c.in_default.not-OrElse c.in_ok-emit_value-in_default.ensures h) c.emit_operator.ensures

pub emit_arguments-loop-argument-preserved : goal.emit_arguments-loop-argument-preserved
emit_arguments-loop-argument-preserved t c =
    arguments_next (plan_in c.args.c.now) c.args.line c.args.call.now.block (parameters_of c.args.call.now.parameters.now) c.args.arguments.now c.loop-argument.argument-index c.argument-item.result _ _ _ _ _ _ c.loop-argument.cells.items _ _ c.loop-argument-test.true c.argument-item.is
    c.in_ok-emit_argument.ensures c.in_ok-cursor.ensures.number c.in_ok-cursor.ensures.left c.in_ok-cursor.ensures.free c.loop-argument.invariant

pub emit_outputs-loop-argument-preserved : goal.emit_outputs-loop-argument-preserved
emit_outputs-loop-argument-preserved t c =
    outputs_next (plan_in c.args.c.now) c.args.line c.args.call.now.block c.args.call.now.free (parameters_of c.args.call.now.parameters.now) c.args.call.now.whole.now c.args.arguments.now c.loop-argument.argument-index c.argument-item.result c.loop-argument.cells.items _ _
    c.loop-argument-test.true c.argument-item.is c.in_ok-emit_output.ensures c.loop-argument.invariant

pub emit_value-returns-then-is_conversion : goal.emit_value-returns-then-is_conversion
emit_value-returns-then-is_conversion t c =
    on_ok_weaker c.emit_converted.result (λ h. conversion_goes (plan_in c.args.c.now) c.args.line c.args.free c.args.e.now c.in-Call.a c.in-Call.place c.in-Call.arguments c.as_slice-arguments.result.now c.in_ok-block-in-Call.block c.in_ok-call-in-Call.call _ _ c.in-Call.is c.as_slice-arguments.ensures
    c.in_ok-call-in-Call.ensures (sym c.is_conversion.ensures ∙ c.if-is_conversion.true) h) c.emit_converted.ensures

pub emit_value-returns-in_ok-emit_taken-in-Call : goal.emit_value-returns-in_ok-emit_taken-in-Call
emit_value-returns-in_ok-emit_taken-in-Call t c =
    call_goes (plan_in c.args.c.now) c.args.line c.args.free c.in_ok-block-in-Call.block c.args.e.now c.in-Call.a c.in-Call.place c.in-Call.arguments c.as_slice-arguments.result.now c.room_of.result c.in_ok-call-in-Call.call (record { free = c.args.free; kind = record c.in_ok-call-in-Call.call.receiver { now = c.in-Call.a.kind } }) c.args.cells.now.items _ _ c.in-Call.is c.as_slice-arguments.ensures
    c.room_of.ensures c.in_ok-block-in-Call.ensures c.in_ok-call-in-Call.ensures (sym c.is_conversion.ensures ∙ c.if-is_conversion.false) refl refl
    (called_goes (plan_in c.args.c.now) c.args.line c.in_ok-call-in-Call.call (Some (record { free = c.args.free; kind = record c.in_ok-call-in-Call.call.receiver { now = c.in-Call.a.kind } })) c.args.free (place_of c.in-Call.place).0 (place_of c.in-Call.place).1 (arguments_of c.as_slice-arguments.result.now) c.args.cells.now.items _ _ _ _ _
    c.in_ok-emit_target-in-Call.ensures c.in_ok-emit_own-in-Call.ensures c.in_ok-emit_given-in-Call.ensures c.in_ok-emit_entry-in-Call.ensures c.in_ok-emit_outputs-in-Call.ensures)
    c.in_ok-emit_taken-in-Call.ensures

pub emit_given-returns-then-is_base_body : goal.emit_given-returns-then-is_base_body
emit_given-returns-then-is_base_body t c =
    on_ok_weaker c.emit_same.result (λ h. h ∙ ap (λ y. c.args.cells.now.items ++ y) (sym (base_given (callee_seen c.args.call.now.callee) _ _ (sym c.is_base_body.ensures ∙ c.if-is_base_body.true)))) c.emit_same.ensures

pub emit_given-returns : goal.emit_given-returns
emit_given-returns t c =
    on_ok_weaker c.emit_arguments.result (λ h. h ∙ ap (λ y. c.args.cells.now.items ++ y) (sym (other_given (callee_seen c.args.call.now.callee) _ _ (sym c.is_base_body.ensures ∙ c.if-is_base_body.false)))) c.emit_arguments.ensures

pub emit_argument-returns-in-Positional : goal.emit_argument-returns-in-Positional
emit_argument-returns-in-Positional t c =
    on_ok_weaker c.emit_passed.result (λ h. positional_given (plan_in c.args.c.now) c.args.line c.args.call.now.block c.args.cursor.free (parameters_of c.args.call.now.parameters.now) c.args.cursor.number (parameters_of c.args.cursor.left.now) c.args.argument.now c.in-Positional.value _ _ _ _ _
    c.in-Positional.is c.in_ok-number.ensures c.in_ok-at.ensures c.next_parameter-parameter.ensures h) c.emit_passed.ensures

pub emit_argument-returns-in-Input : goal.emit_argument-returns-in-Input
emit_argument-returns-in-Input t c =
    on_ok_weaker c.emit_passed-in-Input.result (λ h. named_given (plan_in c.args.c.now) c.args.line c.args.call.now.block c.args.cursor.free (parameters_of c.args.call.now.parameters.now) c.args.cursor.number (parameters_of c.args.cursor.left.now) c.args.argument.now c.in-Input.a c.in-Input.field-1 c.in-Input.value _ _ _ _ _
    c.in-Input.is c.in_ok-number.ensures c.in_ok-at.ensures c.parameter_named-parameter.ensures h) c.emit_passed-in-Input.ensures

pub emit_passed-returns-then-is_in_out : goal.emit_passed-returns-then-is_in_out
emit_passed-returns-then-is_in_out t c =
    on_ok_weaker c.emit_kept.result (λ h. bound_given (plan_in c.args.c.now) c.args.line c.args.parameter c.in-Some.parameter c.args.at (note_of (expression_of c.args.value.now)).kind (value_code (plan_in c.args.c.now) c.args.line c.args.free (expression_of c.args.value.now)) _ c.args.cells.now.items _ _
    c.in-Some.is (sym c.is_in_out.ensures ∙ c.if-is_in_out.true) c.in_ok-emit_bound.ensures h) c.emit_kept.ensures

pub emit_passed-returns : goal.emit_passed-returns
emit_passed-returns t c =
    on_ok_weaker c.emit_give.result (λ h. value_given (plan_in c.args.c.now) c.args.line c.args.parameter c.in-Some.parameter c.args.at c.expression_note.result.now.kind _ _ (bound_code (plan_in c.args.c.now) c.args.line c.args.free (expression_of c.args.value.now)) c.args.cells.now.items _ _
    c.in-Some.is (sym c.is_in_out.ensures ∙ c.if-is_in_out.false) (ap (λ n. n.kind) c.expression_note.ensures) c.in_ok-emit_value.ensures h) c.emit_give.ensures

pub emit_output-returns-in_ok-emit_place-in-Output : goal.emit_output-returns-in_ok-emit_place-in-Output
emit_output-returns-in_ok-emit_place-in-Output t c =
    on_ok_weaker c.emit_keep.result (λ h. output_taken (plan_in c.args.c.now) c.args.line c.args.call.now.block c.args.call.now.free c.room_of.result c.in_ok-free-in-Output.free (parameters_of c.args.call.now.parameters.now) c.args.call.now.whole.now c.args.argument.now c.in-Output.a c.in-Output.field-1
    c.in-Output.field-2 c.in-Output.place c.as_slice.result.now c.root_note.result.now c.last_kind-kind.result.now _ _ _ _ c.in-Output.is c.root_note.ensures c.as_slice.ensures c.last_kind-kind.ensures c.room_of.ensures c.in_ok-free-in-Output.ensures c.in_ok-emit_output_value-in-Output.ensures
    c.in_ok-emit_place-in-Output.ensures h) c.emit_keep.ensures

pub emit_argument-returns-in-Output : goal.emit_argument-returns-in-Output
emit_argument-returns-in-Output t c =
    adds_nothing (λ z. argument_code (plan_in c.args.c.now) c.args.line c.args.call.now.block c.args.cursor.free (parameters_of c.args.call.now.parameters.now) c.args.cursor.number (parameters_of c.args.cursor.left.now) z) c.args.cells.now.items _ _ (ap argument_of c.in-Output.is ∙ argument_of-Output c.in-Output.field-0 c.in-Output.field-1 c.in-Output.field-2 c.in-Output.field-3) refl

pub emit_output-returns-in-Positional : goal.emit_output-returns-in-Positional
emit_output-returns-in-Positional t c =
    adds_nothing (λ z. one_output_code (plan_in c.args.c.now) c.args.line c.args.call.now.block c.args.call.now.free (parameters_of c.args.call.now.parameters.now) c.args.call.now.whole.now z) c.args.cells.now.items _ _ (ap argument_of c.in-Positional.is ∙ argument_of-Positional c.in-Positional.field-0) refl

pub emit_output-returns-in-Input : goal.emit_output-returns-in-Input
emit_output-returns-in-Input t c =
    adds_nothing (λ z. one_output_code (plan_in c.args.c.now) c.args.line c.args.call.now.block c.args.call.now.free (parameters_of c.args.call.now.parameters.now) c.args.call.now.whole.now z) c.args.cells.now.items _ _ (ap argument_of c.in-Input.is ∙ argument_of-Input c.in-Input.field-0 c.in-Input.field-1 c.in-Input.field-2) refl

pub emit_bound-returns-in-Place : goal.emit_bound-returns-in-Place
emit_bound-returns-in-Place t c =
    on_ok_weaker c.emit_place.result (λ h. h ∙ ap (λ z. c.args.cells.now.items ++ bound_code (plan_in c.args.c.now) c.args.line c.args.free z) (sym (ap expression_of c.in-Place.is ∙ expression_of-Place c.in-Place.field-0 c.in-Place.place))) c.emit_place.ensures

pub emit_bound-returns-in-Int : goal.emit_bound-returns-in-Int
emit_bound-returns-in-Int t c =
    adds_nothing (λ z. bound_code (plan_in c.args.c.now) c.args.line c.args.free z) c.args.cells.now.items _ _ (ap expression_of c.in-Int.is ∙ expression_of-Int c.in-Int.field-0 c.in-Int.field-1) refl

pub emit_bound-returns-in-Typed : goal.emit_bound-returns-in-Typed
emit_bound-returns-in-Typed t c =
    adds_nothing (λ z. bound_code (plan_in c.args.c.now) c.args.line c.args.free z) c.args.cells.now.items _ _ (ap expression_of c.in-Typed.is ∙ expression_of-Typed c.in-Typed.field-0 c.in-Typed.field-1 c.in-Typed.field-2) refl

pub emit_bound-returns-in-Time : goal.emit_bound-returns-in-Time
emit_bound-returns-in-Time t c =
    adds_nothing (λ z. bound_code (plan_in c.args.c.now) c.args.line c.args.free z) c.args.cells.now.items _ _ (ap expression_of c.in-Time.is ∙ expression_of-Time c.in-Time.field-0 c.in-Time.field-1) refl

pub emit_bound-returns-in-True : goal.emit_bound-returns-in-True
emit_bound-returns-in-True t c =
    adds_nothing (λ z. bound_code (plan_in c.args.c.now) c.args.line c.args.free z) c.args.cells.now.items _ _ (ap expression_of c.in-True.is ∙ expression_of-True c.in-True.field-0) refl

pub emit_bound-returns-in-False : goal.emit_bound-returns-in-False
emit_bound-returns-in-False t c =
    adds_nothing (λ z. bound_code (plan_in c.args.c.now) c.args.line c.args.free z) c.args.cells.now.items _ _ (ap expression_of c.in-False.is ∙ expression_of-False c.in-False.field-0) refl

pub emit_bound-returns-in-Null : goal.emit_bound-returns-in-Null
emit_bound-returns-in-Null t c =
    adds_nothing (λ z. bound_code (plan_in c.args.c.now) c.args.line c.args.free z) c.args.cells.now.items _ _ (ap expression_of c.in-Null.is ∙ expression_of-Null c.in-Null.field-0) refl

pub emit_bound-returns-in-Call : goal.emit_bound-returns-in-Call
emit_bound-returns-in-Call t c =
    adds_nothing (λ z. bound_code (plan_in c.args.c.now) c.args.line c.args.free z) c.args.cells.now.items _ _ (ap expression_of c.in-Call.is ∙ expression_of-Call c.in-Call.field-0 c.in-Call.field-1 c.in-Call.field-2) refl

pub emit_bound-returns-in-Enumerator : goal.emit_bound-returns-in-Enumerator
emit_bound-returns-in-Enumerator t c =
    adds_nothing (λ z. bound_code (plan_in c.args.c.now) c.args.line c.args.free z) c.args.cells.now.items _ _ (ap expression_of c.in-Enumerator.is ∙ expression_of-Enumerator c.in-Enumerator.field-0 c.in-Enumerator.field-1 c.in-Enumerator.field-2 c.in-Enumerator.field-3) refl

pub emit_bound-returns-in-Ref : goal.emit_bound-returns-in-Ref
emit_bound-returns-in-Ref t c =
    adds_nothing (λ z. bound_code (plan_in c.args.c.now) c.args.line c.args.free z) c.args.cells.now.items _ _ (ap expression_of c.in-Ref.is ∙ expression_of-Ref c.in-Ref.field-0 c.in-Ref.field-1) refl

pub emit_bound-returns-in-Now : goal.emit_bound-returns-in-Now
emit_bound-returns-in-Now t c =
    adds_nothing (λ z. bound_code (plan_in c.args.c.now) c.args.line c.args.free z) c.args.cells.now.items _ _ (ap expression_of c.in-Now.is ∙ expression_of-Now c.in-Now.field-0) refl

pub emit_bound-returns-in-Paren : goal.emit_bound-returns-in-Paren
emit_bound-returns-in-Paren t c =
    adds_nothing (λ z. bound_code (plan_in c.args.c.now) c.args.line c.args.free z) c.args.cells.now.items _ _ (ap expression_of c.in-Paren.is ∙ expression_of-Paren c.in-Paren.field-0 c.in-Paren.field-1) refl

pub emit_bound-returns-in-Not : goal.emit_bound-returns-in-Not
emit_bound-returns-in-Not t c =
    adds_nothing (λ z. bound_code (plan_in c.args.c.now) c.args.line c.args.free z) c.args.cells.now.items _ _ (ap expression_of c.in-Not.is ∙ expression_of-Not c.in-Not.field-0 c.in-Not.field-1) refl

pub emit_bound-returns-in-Negate : goal.emit_bound-returns-in-Negate
emit_bound-returns-in-Negate t c =
    adds_nothing (λ z. bound_code (plan_in c.args.c.now) c.args.line c.args.free z) c.args.cells.now.items _ _ (ap expression_of c.in-Negate.is ∙ expression_of-Negate c.in-Negate.field-0 c.in-Negate.field-1) refl

pub emit_bound-returns-in-Chain : goal.emit_bound-returns-in-Chain
emit_bound-returns-in-Chain t c =
    adds_nothing (λ z. bound_code (plan_in c.args.c.now) c.args.line c.args.free z) c.args.cells.now.items _ _ (ap expression_of c.in-Chain.is ∙ expression_of-Chain c.in-Chain.field-0 c.in-Chain.field-1 c.in-Chain.field-2) refl
