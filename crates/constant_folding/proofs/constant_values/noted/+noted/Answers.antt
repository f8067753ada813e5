use Rattle.constant_folding.proofs.constant_values.NotedLaws.{value_true, value_false, value_null, value_ref, value_now, leaf_arm, int_arm, typed_arm, time_arm, place_arm, enumerator_arm, paren_arm, not_arm, negate_arm, chain_arm, call_arm, negated_int, negated_part, row_begun, row_next, row_ended, operand_first, operand_none, positional_given, input_given, output_given}
use Rattle.constant_folding.proofs.constant_values.noted.+noted.Goals as goal

pub noted_value-returns-in-Int : goal.noted_value-returns-in-Int
noted_value-returns-in-Int t c = int_arm _ _ _ _ _ c.in-Int.is c.as_str.ensures c.int_value.ensures

pub noted_value-returns-in-Typed : goal.noted_value-returns-in-Typed
noted_value-returns-in-Typed t c = typed_arm _ _ _ _ _ c.in-Typed.is c.typed_value.ensures

pub noted_value-returns-in-Time : goal.noted_value-returns-in-Time
noted_value-returns-in-Time t c = time_arm _ _ _ _ _ c.in-Time.is c.as_str-in-Time.ensures c.duration_value.ensures

pub noted_value-returns-in-Place : goal.noted_value-returns-in-Place
noted_value-returns-in-Place t c = place_arm _ _ _ _ c.in-Place.is c.target_value.ensures

pub noted_value-returns-in-Call : goal.noted_value-returns-in-Call
noted_value-returns-in-Call t c = call_arm _ _ _ _ _ _ _ _ _ c.in-Call.is c.as_slice-selectors.ensures c.as_slice-arguments.ensures c.operand_value-operand.ensures c.conversion_at.ensures c.converted_by.ensures

pub noted_value-returns-in-Enumerator : goal.noted_value-returns-in-Enumerator
noted_value-returns-in-Enumerator t c = enumerator_arm _ _ _ _ _ _ c.in-Enumerator.is c.target_value-in-Enumerator.ensures

pub noted_value-returns-in-Paren : goal.noted_value-returns-in-Paren
noted_value-returns-in-Paren t c = paren_arm _ _ _ _ _ c.in-Paren.is c.get.ensures c.noted_value.ensures

pub noted_value-returns-in-Not : goal.noted_value-returns-in-Not
noted_value-returns-in-Not t c = not_arm _ _ _ _ _ _ _ c.in-Not.is c.get-in-Not.ensures c.noted_value-operand.ensures c.kind_in.ensures c.complemented.ensures

pub noted_value-returns-in-Negate : goal.noted_value-returns-in-Negate
noted_value-returns-in-Negate t c = negate_arm _ _ _ _ _ c.in-Negate.is c.get-in-Negate.ensures c.negated_value.ensures

pub noted_value-returns-in-Chain : goal.noted_value-returns-in-Chain
noted_value-returns-in-Chain t c = chain_arm _ _ _ _ _ _ _ _ c.in-Chain.is c.get-in-Chain.ensures c.as_slice.ensures c.noted_value-front.ensures c.row_value.ensures

pub noted_value-returns-in-True : goal.noted_value-returns-in-True
noted_value-returns-in-True t c = leaf_arm _ _ _ c.in-True.is (value_true _)

pub noted_value-returns-in-False : goal.noted_value-returns-in-False
noted_value-returns-in-False t c = leaf_arm _ _ _ c.in-False.is (value_false _)

pub noted_value-returns-in-Null : goal.noted_value-returns-in-Null
noted_value-returns-in-Null t c = leaf_arm _ _ _ c.in-Null.is (value_null _)

pub noted_value-returns-in-Ref : goal.noted_value-returns-in-Ref
noted_value-returns-in-Ref t c = leaf_arm _ _ _ c.in-Ref.is (value_ref _ _)

pub noted_value-returns-in-Now : goal.noted_value-returns-in-Now
noted_value-returns-in-Now t c = leaf_arm _ _ _ c.in-Now.is (value_now _)

pub row_value-loop-tail-init : goal.row_value-loop-tail-init
row_value-loop-tail-init t c = row_begun _ _

pub row_value-loop-tail-preserved : goal.row_value-loop-tail-preserved
row_value-loop-tail-preserved t c = row_next _ _ _ _ _ _ _ _ c.loop-tail-test.true c.tail-item.is c.noted_value-operand.ensures c.kind_in.ensures c.operated-so_far.ensures c.loop-tail.invariant

pub row_value-returns : goal.row_value-returns
row_value-returns t c = row_ended _ _ _ _ c.loop-tail-test.false c.loop-tail.invariant

pub given_value-returns-in-Positional : goal.given_value-returns-in-Positional
given_value-returns-in-Positional t c = positional_given _ _ _ c.in-Positional.is c.noted_value.ensures

pub given_value-returns-in-Input : goal.given_value-returns-in-Input
given_value-returns-in-Input t c = input_given _ _ _ _ c.in-Input.is

pub given_value-returns-in-Output : goal.given_value-returns-in-Output
given_value-returns-in-Output t c = output_given _ _ _ _ _ c.in-Output.is
