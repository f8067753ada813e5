use Rattle.std.proofs.Common.{refl}
use Rattle.st_rules.proofs.ListLaws.{left_next, left_end}
use Rattle.st_tree.specs.Expression.{expression_of, expressions_of, selector_of, selectors_of, argument_of, arguments_of, tail_of, tails_of}
use Rattle.st_unit_rules.specs.Cycles.{named_in, named_in_expressions, named_in_selector, named_in_selectors, named_in_argument, named_in_arguments, named_in_tails}
use Rattle.declared_graph.specs.Private.Names.{all_named}
use Rattle.declared_graph.proofs.NameLaws.{place_names, call_names, chain_names, hash_names, leaf_names, none_in_int, none_in_typed, none_in_time, none_in_true, none_in_false, none_in_null, none_in_now, paren_names, not_names, negate_names, place_named, ref_names, field_names, target_names, index_names, positional_names, input_names, output_names, operand_names}
use Rattle.declared_graph.proofs.names.+names.Goals as goal

pub add_place-returns : goal.add_place-returns
add_place-returns t c =
    place_names (all_named c.args.list.now.items) (all_named c.add_root.new.list.items) (all_named c.add_selectors.new.list.items) c.args.place.now c.as_slice.result.now c.as_slice.ensures c.in_ok-add_root.ensures
    c.in_ok-add_selectors.ensures

pub add_expression-returns-in_ok-add_arguments-in-Call : goal.add_expression-returns-in_ok-add_arguments-in-Call
add_expression-returns-in_ok-add_arguments-in-Call t c =
    call_names (all_named c.args.list.now.items) (all_named c.add_place-in-Call.new.list.items) (all_named c.add_arguments.new.list.items) c.args.e.now c.in-Call.field-0 c.in-Call.place c.in-Call.arguments c.as_slice.result.now
    c.in-Call.is c.as_slice.ensures c.in_ok-add_place-in-Call.ensures c.in_ok-add_arguments-in-Call.ensures

pub add_expression-returns-in_ok-add_tails-in-Chain : goal.add_expression-returns-in_ok-add_tails-in-Chain
add_expression-returns-in_ok-add_tails-in-Chain t c =
    chain_names (all_named c.args.list.now.items) (all_named c.add_expression-in-Chain.new.list.items) (all_named c.add_tails.new.list.items) c.args.e.now c.in-Chain.field-0 c.in-Chain.first c.get-in-Chain.result.now c.in-Chain.tails
    c.as_slice-in-Chain.result.now c.in-Chain.is c.get-in-Chain.ensures c.as_slice-in-Chain.ensures c.in_ok-add_expression-in-Chain.ensures c.in_ok-add_tails-in-Chain.ensures

pub add_expression-returns-in_ok-push-in-Enumerator : goal.add_expression-returns-in_ok-push-in-Enumerator
add_expression-returns-in_ok-push-in-Enumerator t c =
    hash_names c.args.e.now c.in-Enumerator.line c.in-Enumerator.name c.in-Enumerator.field-2 c.in-Enumerator.field-3 c.args.list.now.items c.push.new.self.items _ c.in-Enumerator.is c.in_ok-push-in-Enumerator.ensures.items refl

pub add_selectors-loop-selector-preserved : goal.add_selectors-loop-selector-preserved
add_selectors-loop-selector-preserved t c =
    left_next (λ xs. named_in_selectors (selectors_of xs)) c.args.selectors.now c.loop-selector.selector-index c.selector-item.result (all_named c.loop-selector.list.items) _ (named_in_selector (selector_of c.selector-item.result)) _
    c.loop-selector-test.true c.selector-item.is refl c.in_ok-add_selector.ensures c.loop-selector.invariant

pub add_selectors-returns : goal.add_selectors-returns
add_selectors-returns t c = left_end (λ xs. named_in_selectors (selectors_of xs)) c.args.selectors.now c.loop-selector.selector-index (all_named c.loop-selector.list.items) _ refl c.loop-selector-test.false c.loop-selector.invariant

pub add_selector-returns-in_ok-add_indices-in-Index : goal.add_selector-returns-in_ok-add_indices-in-Index
add_selector-returns-in_ok-add_indices-in-Index t c = index_names (all_named c.args.list.now.items) _ _ _ _ _ c.in-Index.is c.as_slice.ensures c.in_ok-add_indices-in-Index.ensures

pub add_selector-returns-in-Field : goal.add_selector-returns-in-Field
add_selector-returns-in-Field t c = field_names (all_named c.args.list.now.items) _ _ _ c.in-Field.is

pub add_selector-returns-in-Target : goal.add_selector-returns-in-Target
add_selector-returns-in-Target t c = target_names (all_named c.args.list.now.items) _ _ c.in-Target.is

pub add_indices-loop-index-preserved : goal.add_indices-loop-index-preserved
add_indices-loop-index-preserved t c =
    left_next (λ xs. named_in_expressions (expressions_of xs)) c.args.indices.now c.loop-index.index-index c.index-item.result (all_named c.loop-index.list.items) _ (named_in (expression_of c.index-item.result)) _
    c.loop-index-test.true c.index-item.is refl c.in_ok-add_expression.ensures c.loop-index.invariant

pub add_indices-returns : goal.add_indices-returns
add_indices-returns t c = left_end (λ xs. named_in_expressions (expressions_of xs)) c.args.indices.now c.loop-index.index-index (all_named c.loop-index.list.items) _ refl c.loop-index-test.false c.loop-index.invariant

pub add_expression-returns-in_ok-add_place-in-Place : goal.add_expression-returns-in_ok-add_place-in-Place
add_expression-returns-in_ok-add_place-in-Place t c = place_named (all_named c.args.list.now.items) _ _ _ _ c.in-Place.is c.in_ok-add_place-in-Place.ensures

pub add_expression-returns-in_ok-add_place-in-Ref : goal.add_expression-returns-in_ok-add_place-in-Ref
add_expression-returns-in_ok-add_place-in-Ref t c = ref_names (all_named c.args.list.now.items) _ _ _ _ c.in-Ref.is c.in_ok-add_place-in-Ref.ensures

pub add_expression-returns-in_ok-add_expression-in-Paren : goal.add_expression-returns-in_ok-add_expression-in-Paren
add_expression-returns-in_ok-add_expression-in-Paren t c = paren_names (all_named c.args.list.now.items) _ _ _ _ _ c.in-Paren.is c.get.ensures c.in_ok-add_expression-in-Paren.ensures

pub add_expression-returns-in_ok-add_expression-in-Not : goal.add_expression-returns-in_ok-add_expression-in-Not
add_expression-returns-in_ok-add_expression-in-Not t c = not_names (all_named c.args.list.now.items) _ _ _ _ _ c.in-Not.is c.get-in-Not.ensures c.in_ok-add_expression-in-Not.ensures

pub add_expression-returns-in_ok-add_expression-in-Negate : goal.add_expression-returns-in_ok-add_expression-in-Negate
add_expression-returns-in_ok-add_expression-in-Negate t c = negate_names (all_named c.args.list.now.items) _ _ _ _ _ c.in-Negate.is c.get-in-Negate.ensures c.in_ok-add_expression-in-Negate.ensures

pub add_expression-returns-in-Int : goal.add_expression-returns-in-Int
add_expression-returns-in-Int t c = leaf_names (all_named c.args.list.now.items) _ _ c.in-Int.is (none_in_int _ _ _)

pub add_expression-returns-in-Typed : goal.add_expression-returns-in-Typed
add_expression-returns-in-Typed t c = leaf_names (all_named c.args.list.now.items) _ _ c.in-Typed.is (none_in_typed _ _ _ _)

pub add_expression-returns-in-Time : goal.add_expression-returns-in-Time
add_expression-returns-in-Time t c = leaf_names (all_named c.args.list.now.items) _ _ c.in-Time.is (none_in_time _ _ _)

pub add_expression-returns-in-True : goal.add_expression-returns-in-True
add_expression-returns-in-True t c = leaf_names (all_named c.args.list.now.items) _ _ c.in-True.is (none_in_true _ _)

pub add_expression-returns-in-False : goal.add_expression-returns-in-False
add_expression-returns-in-False t c = leaf_names (all_named c.args.list.now.items) _ _ c.in-False.is (none_in_false _ _)

pub add_expression-returns-in-Null : goal.add_expression-returns-in-Null
add_expression-returns-in-Null t c = leaf_names (all_named c.args.list.now.items) _ _ c.in-Null.is (none_in_null _ _)

pub add_expression-returns-in-Now : goal.add_expression-returns-in-Now
add_expression-returns-in-Now t c = leaf_names (all_named c.args.list.now.items) _ _ c.in-Now.is (none_in_now _ _)

pub add_tail-returns : goal.add_tail-returns
add_tail-returns t c = operand_names c.add_expression.result (all_named c.args.list.now.items) _ c.args.tail.now c.add_expression.ensures

pub add_tails-loop-tail-preserved : goal.add_tails-loop-tail-preserved
add_tails-loop-tail-preserved t c =
    left_next (λ xs. named_in_tails (tails_of xs)) c.args.tails.now c.loop-tail.tail-index c.tail-item.result (all_named c.loop-tail.list.items) _ (named_in (tail_of c.tail-item.result).2) _
    c.loop-tail-test.true c.tail-item.is refl c.in_ok-add_tail.ensures c.loop-tail.invariant

pub add_tails-returns : goal.add_tails-returns
add_tails-returns t c = left_end (λ xs. named_in_tails (tails_of xs)) c.args.tails.now c.loop-tail.tail-index (all_named c.loop-tail.list.items) _ refl c.loop-tail-test.false c.loop-tail.invariant

pub add_argument-returns-in_ok-add_expression-in-Positional : goal.add_argument-returns-in_ok-add_expression-in-Positional
add_argument-returns-in_ok-add_expression-in-Positional t c = positional_names (all_named c.args.list.now.items) _ _ _ c.in-Positional.is c.in_ok-add_expression-in-Positional.ensures

pub add_argument-returns-in_ok-add_expression-in-Input : goal.add_argument-returns-in_ok-add_expression-in-Input
add_argument-returns-in_ok-add_expression-in-Input t c = input_names (all_named c.args.list.now.items) _ _ _ _ _ c.in-Input.is c.in_ok-add_expression-in-Input.ensures

pub add_argument-returns-in_ok-add_place-in-Output : goal.add_argument-returns-in_ok-add_place-in-Output
add_argument-returns-in_ok-add_place-in-Output t c = output_names (all_named c.args.list.now.items) _ _ _ _ _ _ c.in-Output.is c.in_ok-add_place-in-Output.ensures

pub add_arguments-loop-argument-preserved : goal.add_arguments-loop-argument-preserved
add_arguments-loop-argument-preserved t c =
    left_next (λ xs. named_in_arguments (arguments_of xs)) c.args.arguments.now c.loop-argument.argument-index c.argument-item.result (all_named c.loop-argument.list.items) _ (named_in_argument (argument_of c.argument-item.result)) _
    c.loop-argument-test.true c.argument-item.is refl c.in_ok-add_argument.ensures c.loop-argument.invariant

pub add_arguments-returns : goal.add_arguments-returns
add_arguments-returns t c = left_end (λ xs. named_in_arguments (arguments_of xs)) c.args.arguments.now c.loop-argument.argument-index (all_named c.loop-argument.list.items) _ refl c.loop-argument-test.false c.loop-argument.invariant
