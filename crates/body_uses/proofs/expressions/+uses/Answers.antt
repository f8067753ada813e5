use Rattle.std.proofs.Common.{◌++◌, refl, ap, ◌∙◌}
use Rattle.st_rules.proofs.ListLaws.{left_next, left_end}
use Rattle.st_tree.specs.Expression.{expression_of, expressions_of, arguments_of, tail_of, tails_of}
use Rattle.st_values.specs.View.{program_of}
use Rattle.st_meaning.specs.st_frame.Use.{is_bound, expression_uses, index_uses, tail_uses, argument_uses}
use Rattle.routine_tables.specs.Parameters.{parameters_of}
use Rattle.body_uses.specs.Uses.{uses_of}
use Rattle.body_uses.proofs.CallLaws.{none_in_int, none_in_typed, none_in_time, none_in_true, none_in_false, none_in_null, none_in_enumerator, none_in_now}
use Rattle.body_uses.proofs.UseLaws.{leaf_goes, place_node_goes, ref_goes, paren_goes, not_goes, negate_goes, index_goes, tail_goes, place_goes, positional_goes, input_goes, output_goes, call_goes, call_arm, row_goes, field_goes, target_goes}
use Rattle.body_uses.proofs.expressions.+uses.Goals as goal

pub add_place-returns : goal.add_place-returns
add_place-returns t c =
    place_goes (program_of c.args.c.tables.now) c.args.place.now c.as_slice.result.now c.root_note.result.now _ _ _ c.as_slice.ensures c.root_note.ensures c.in_ok-add_root.ensures c.in_ok-add_along.ensures

pub add_argument-returns-in_ok-add_expression-in-Positional : goal.add_argument-returns-in_ok-add_expression-in-Positional
add_argument-returns-in_ok-add_expression-in-Positional t c =
    positional_goes (program_of c.args.c.tables.now) (parameters_of c.args.parameters.now) (parameters_of c.args.left.now) c.args.argument.now c.in-Positional.value c.is_bound.result _ _ _ c.in-Positional.is
    (c.is_bound.ensures ∙ ap is_bound c.next_parameter.ensures) c.in_ok-add_bound-in-Positional.ensures c.in_ok-add_expression-in-Positional.ensures

pub add_argument-returns-in_ok-add_expression-in-Input : goal.add_argument-returns-in_ok-add_expression-in-Input
add_argument-returns-in_ok-add_expression-in-Input t c =
    input_goes (program_of c.args.c.tables.now) (parameters_of c.args.parameters.now) (parameters_of c.args.left.now) c.args.argument.now c.in-Input.note c.in-Input.field-1 c.in-Input.value c.is_bound-in-Input.result _ _ _ c.in-Input.is
    (c.is_bound-in-Input.ensures ∙ ap is_bound c.parameter_named.ensures) c.in_ok-add_bound-in-Input.ensures c.in_ok-add_expression-in-Input.ensures

pub add_argument-returns-in_ok-add_place-in-Output : goal.add_argument-returns-in_ok-add_place-in-Output
add_argument-returns-in_ok-add_place-in-Output t c =
    output_goes (program_of c.args.c.tables.now) (parameters_of c.args.parameters.now) (parameters_of c.args.left.now) c.args.argument.now c.in-Output.field-0 c.in-Output.field-1 c.in-Output.field-2 c.in-Output.place c.as_slice.result.now _ _ _ c.in-Output.is
    c.as_slice.ensures c.in_ok-add_changed-in-Output.ensures c.in_ok-add_place-in-Output.ensures

pub add_expression-returns-in_ok-add_arguments-in-Call : goal.add_expression-returns-in_ok-add_arguments-in-Call
add_expression-returns-in_ok-add_arguments-in-Call t c =
    call_arm (program_of c.args.c.tables.now) c.args.e.now c.in-Call.field-0 c.in-Call.place c.in-Call.arguments _ _ c.in-Call.is
    (call_goes (program_of c.args.c.tables.now) c.in-Call.place c.as_slice.result.now _ _ (arguments_of c.in-Call.arguments) _ _ _ _ c.as_slice.ensures c.called-called.ensures c.called_parameters-parameters.ensures
    c.in_ok-add_head-in-Call.ensures c.in_ok-add_place-in-Call.ensures
    (c.in_ok-add_arguments-in-Call.ensures ∙ ap (λ xs. uses_of c.add_place-in-Call.new.uses.items ++ argument_uses (program_of c.args.c.tables.now) (parameters_of c.called_parameters-parameters.result.now) (parameters_of c.called_parameters-parameters.result.now) (arguments_of xs)) c.as_slice-in-Call.ensures))

pub add_expression-returns-in_ok-add_tails-in-Chain : goal.add_expression-returns-in_ok-add_tails-in-Chain
add_expression-returns-in_ok-add_tails-in-Chain t c =
    row_goes (program_of c.args.c.tables.now) c.args.e.now c.in-Chain.field-0 c.in-Chain.first c.in-Chain.tails _ _ _ c.in-Chain.is
    (c.in_ok-add_expression-in-Chain.ensures ∙ ap (λ x. uses_of c.args.uses.now.items ++ expression_uses (program_of c.args.c.tables.now) (expression_of x)) c.get-in-Chain.ensures)
    (c.in_ok-add_tails-in-Chain.ensures ∙ ap (λ ts. uses_of c.add_expression-in-Chain.new.uses.items ++ tail_uses (program_of c.args.c.tables.now) (tails_of ts)) c.as_slice-in-Chain.ensures)

pub add_selector-returns-in-Field : goal.add_selector-returns-in-Field
add_selector-returns-in-Field t c = field_goes (program_of c.args.c.tables.now) _ c.args.selector.now c.in-Field.field-0 c.in-Field.field-1 c.in-Field.is

pub add_selector-returns-in-Target : goal.add_selector-returns-in-Target
add_selector-returns-in-Target t c = target_goes (program_of c.args.c.tables.now) _ c.args.selector.now c.in-Target.field-0 c.in-Target.is

pub add_expression-returns-in_ok-add_place-in-Place : goal.add_expression-returns-in_ok-add_place-in-Place
add_expression-returns-in_ok-add_place-in-Place t c = place_node_goes (program_of c.args.c.tables.now) (uses_of c.args.uses.now.items) _ _ _ _ c.in-Place.is c.in_ok-add_place-in-Place.ensures

pub add_expression-returns-in_ok-add_place-in-Ref : goal.add_expression-returns-in_ok-add_place-in-Ref
add_expression-returns-in_ok-add_place-in-Ref t c = ref_goes (program_of c.args.c.tables.now) (uses_of c.args.uses.now.items) _ _ _ _ c.in-Ref.is c.in_ok-add_place-in-Ref.ensures

pub add_expression-returns-in_ok-add_expression-in-Paren : goal.add_expression-returns-in_ok-add_expression-in-Paren
add_expression-returns-in_ok-add_expression-in-Paren t c = paren_goes (program_of c.args.c.tables.now) (uses_of c.args.uses.now.items) _ _ _ _ _ c.in-Paren.is c.get.ensures c.in_ok-add_expression-in-Paren.ensures

pub add_expression-returns-in_ok-add_expression-in-Not : goal.add_expression-returns-in_ok-add_expression-in-Not
add_expression-returns-in_ok-add_expression-in-Not t c = not_goes (program_of c.args.c.tables.now) (uses_of c.args.uses.now.items) _ _ _ _ _ c.in-Not.is c.get-in-Not.ensures c.in_ok-add_expression-in-Not.ensures

pub add_expression-returns-in_ok-add_expression-in-Negate : goal.add_expression-returns-in_ok-add_expression-in-Negate
add_expression-returns-in_ok-add_expression-in-Negate t c = negate_goes (program_of c.args.c.tables.now) (uses_of c.args.uses.now.items) _ _ _ _ _ c.in-Negate.is c.get-in-Negate.ensures c.in_ok-add_expression-in-Negate.ensures

pub add_expression-returns-in-Int : goal.add_expression-returns-in-Int
add_expression-returns-in-Int t c = leaf_goes (program_of c.args.c.tables.now) (uses_of c.args.uses.now.items) _ _ c.in-Int.is (none_in_int _ _ _ _)

pub add_expression-returns-in-Typed : goal.add_expression-returns-in-Typed
add_expression-returns-in-Typed t c = leaf_goes (program_of c.args.c.tables.now) (uses_of c.args.uses.now.items) _ _ c.in-Typed.is (none_in_typed _ _ _ _ _)

pub add_expression-returns-in-Time : goal.add_expression-returns-in-Time
add_expression-returns-in-Time t c = leaf_goes (program_of c.args.c.tables.now) (uses_of c.args.uses.now.items) _ _ c.in-Time.is (none_in_time _ _ _ _)

pub add_expression-returns-in-True : goal.add_expression-returns-in-True
add_expression-returns-in-True t c = leaf_goes (program_of c.args.c.tables.now) (uses_of c.args.uses.now.items) _ _ c.in-True.is (none_in_true _ _ _)

pub add_expression-returns-in-False : goal.add_expression-returns-in-False
add_expression-returns-in-False t c = leaf_goes (program_of c.args.c.tables.now) (uses_of c.args.uses.now.items) _ _ c.in-False.is (none_in_false _ _ _)

pub add_expression-returns-in-Null : goal.add_expression-returns-in-Null
add_expression-returns-in-Null t c = leaf_goes (program_of c.args.c.tables.now) (uses_of c.args.uses.now.items) _ _ c.in-Null.is (none_in_null _ _ _)

pub add_expression-returns-in-Enumerator : goal.add_expression-returns-in-Enumerator
add_expression-returns-in-Enumerator t c = leaf_goes (program_of c.args.c.tables.now) (uses_of c.args.uses.now.items) _ _ c.in-Enumerator.is (none_in_enumerator _ _ _ _ _ _)

pub add_expression-returns-in-Now : goal.add_expression-returns-in-Now
add_expression-returns-in-Now t c = leaf_goes (program_of c.args.c.tables.now) (uses_of c.args.uses.now.items) _ _ c.in-Now.is (none_in_now _ _ _)

pub add_selector-returns-in_ok-add_indices-in-Index : goal.add_selector-returns-in_ok-add_indices-in-Index
add_selector-returns-in_ok-add_indices-in-Index t c = index_goes (program_of c.args.c.tables.now) (uses_of c.args.uses.now.items) _ _ _ _ _ c.in-Index.is c.as_slice.ensures c.in_ok-add_indices-in-Index.ensures

pub add_tail-returns : goal.add_tail-returns
add_tail-returns t c = tail_goes (program_of c.args.c.tables.now) c.add_expression.result (uses_of c.args.uses.now.items) _ c.args.tail.now c.add_expression.ensures

pub add_indices-loop-index-preserved : goal.add_indices-loop-index-preserved
add_indices-loop-index-preserved t c =
    left_next (λ es. index_uses (program_of c.args.c.tables.now) (expressions_of es)) c.args.indices.now c.loop-index.index-index c.index-item.result (uses_of c.loop-index.uses.items) _ (expression_uses (program_of c.args.c.tables.now) (expression_of c.index-item.result)) _
    c.loop-index-test.true c.index-item.is refl c.in_ok-add_expression.ensures c.loop-index.invariant

pub add_indices-returns : goal.add_indices-returns
add_indices-returns t c = left_end (λ es. index_uses (program_of c.args.c.tables.now) (expressions_of es)) c.args.indices.now c.loop-index.index-index (uses_of c.loop-index.uses.items) _ refl c.loop-index-test.false c.loop-index.invariant

pub add_tails-loop-tail-preserved : goal.add_tails-loop-tail-preserved
add_tails-loop-tail-preserved t c =
    left_next (λ ts. tail_uses (program_of c.args.c.tables.now) (tails_of ts)) c.args.tails.now c.loop-tail.tail-index c.tail-item.result (uses_of c.loop-tail.uses.items) _ (expression_uses (program_of c.args.c.tables.now) (tail_of c.tail-item.result).2) _
    c.loop-tail-test.true c.tail-item.is refl c.in_ok-add_tail.ensures c.loop-tail.invariant

pub add_tails-returns : goal.add_tails-returns
add_tails-returns t c = left_end (λ ts. tail_uses (program_of c.args.c.tables.now) (tails_of ts)) c.args.tails.now c.loop-tail.tail-index (uses_of c.loop-tail.uses.items) _ refl c.loop-tail-test.false c.loop-tail.invariant
