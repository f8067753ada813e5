use Rattle.constant_folding.proofs.told_expressions.ToldLaws.{told_ref, told_now, told_int, told_typed, told_time, told_true, told_false, told_null, leaf_arm, paren_arm, not_arm, negate_arm, chain_arm, place_arm, enumerator_arm, call_arm, operands_begun, operands_next, operands_stopped, operands_ended, arguments_begun, arguments_next, arguments_stopped, arguments_ended, positional_seen, input_seen, output_seen}
use Rattle.constant_folding.proofs.told_expressions.told.+told.Goals as goal

pub names_are_told-returns-in-Place : goal.names_are_told-returns-in-Place
names_are_told-returns-in-Place t c = place_arm _ _ _ _ _ c.in-Place.is c.is_place_told.ensures

pub names_are_told-returns-in-Enumerator : goal.names_are_told-returns-in-Enumerator
names_are_told-returns-in-Enumerator t c = enumerator_arm _ _ _ _ _ _ _ c.in-Enumerator.is c.is_enumerator_told.ensures

pub names_are_told-returns-in-Call : goal.names_are_told-returns-in-Call
names_are_told-returns-in-Call t c = call_arm _ _ _ _ _ _ _ c.in-Call.is c.as_slice.ensures c.arguments_are_told.ensures

pub names_are_told-returns-in-Paren : goal.names_are_told-returns-in-Paren
names_are_told-returns-in-Paren t c = paren_arm _ _ _ _ _ _ c.in-Paren.is c.get.ensures c.names_are_told.ensures

pub names_are_told-returns-in-Not : goal.names_are_told-returns-in-Not
names_are_told-returns-in-Not t c = not_arm _ _ _ _ _ _ c.in-Not.is c.get-in-Not.ensures c.names_are_told-in-Not.ensures

pub names_are_told-returns-in-Negate : goal.names_are_told-returns-in-Negate
names_are_told-returns-in-Negate t c = negate_arm _ _ _ _ _ _ c.in-Negate.is c.get-in-Negate.ensures c.names_are_told-in-Negate.ensures

pub names_are_told-returns-in-Chain : goal.names_are_told-returns-in-Chain
names_are_told-returns-in-Chain t c = chain_arm _ _ _ _ _ _ _ _ _ _ c.in-Chain.is c.get-in-Chain.ensures c.as_slice-in-Chain.ensures c.names_are_told-front.ensures c.operands_are_told-rest.ensures c.both.ensures

pub names_are_told-returns-in-Ref : goal.names_are_told-returns-in-Ref
names_are_told-returns-in-Ref t c = leaf_arm _ _ _ c.in-Ref.is (told_ref _ _ _)

pub names_are_told-returns-in-Now : goal.names_are_told-returns-in-Now
names_are_told-returns-in-Now t c = leaf_arm _ _ _ c.in-Now.is (told_now _ _)

pub names_are_told-returns-in-Int : goal.names_are_told-returns-in-Int
names_are_told-returns-in-Int t c = leaf_arm _ _ _ c.in-Int.is (told_int _ _ _)

pub names_are_told-returns-in-Typed : goal.names_are_told-returns-in-Typed
names_are_told-returns-in-Typed t c = leaf_arm _ _ _ c.in-Typed.is (told_typed _ _ _ _)

pub names_are_told-returns-in-Time : goal.names_are_told-returns-in-Time
names_are_told-returns-in-Time t c = leaf_arm _ _ _ c.in-Time.is (told_time _ _ _)

pub names_are_told-returns-in-True : goal.names_are_told-returns-in-True
names_are_told-returns-in-True t c = leaf_arm _ _ _ c.in-True.is (told_true _ _)

pub names_are_told-returns-in-False : goal.names_are_told-returns-in-False
names_are_told-returns-in-False t c = leaf_arm _ _ _ c.in-False.is (told_false _ _)

pub names_are_told-returns-in-Null : goal.names_are_told-returns-in-Null
names_are_told-returns-in-Null t c = leaf_arm _ _ _ c.in-Null.is (told_null _ _)

pub operands_are_told-loop-tail-init : goal.operands_are_told-loop-tail-init
operands_are_told-loop-tail-init t c = operands_begun _ _

pub operands_are_told-loop-tail-preserved : goal.operands_are_told-loop-tail-preserved
operands_are_told-loop-tail-preserved t c = operands_next _ _ _ _ _ c.loop-tail-test.true c.tail-item.is c.names_are_told.ensures c.if-not-names_are_told.false c.loop-tail.invariant

pub operands_are_told-returns-then-not-names_are_told : goal.operands_are_told-returns-then-not-names_are_told
operands_are_told-returns-then-not-names_are_told t c = operands_stopped _ _ _ _ _ c.loop-tail-test.true c.tail-item.is c.names_are_told.ensures c.if-not-names_are_told.true c.loop-tail.invariant

pub operands_are_told-returns : goal.operands_are_told-returns
operands_are_told-returns t c = operands_ended _ _ _ c.loop-tail-test.false c.loop-tail.invariant

pub is_argument_told-returns-in-Positional : goal.is_argument_told-returns-in-Positional
is_argument_told-returns-in-Positional t c = positional_seen _ _ _ _ c.in-Positional.is c.names_are_told.ensures

pub is_argument_told-returns-in-Input : goal.is_argument_told-returns-in-Input
is_argument_told-returns-in-Input t c = input_seen _ _ _ _ _ _ c.in-Input.is c.names_are_told-in-Input.ensures

pub is_argument_told-returns-in-Output : goal.is_argument_told-returns-in-Output
is_argument_told-returns-in-Output t c = output_seen _ _ _ _ _ _ _ c.in-Output.is c.is_place_told.ensures

pub arguments_are_told-loop-argument-init : goal.arguments_are_told-loop-argument-init
arguments_are_told-loop-argument-init t c = arguments_begun _ _

pub arguments_are_told-loop-argument-preserved : goal.arguments_are_told-loop-argument-preserved
arguments_are_told-loop-argument-preserved t c = arguments_next _ _ _ _ _ c.loop-argument-test.true c.argument-item.is c.is_argument_told.ensures c.if-not-is_argument_told.false c.loop-argument.invariant

pub arguments_are_told-returns-then-not-is_argument_told : goal.arguments_are_told-returns-then-not-is_argument_told
arguments_are_told-returns-then-not-is_argument_told t c = arguments_stopped _ _ _ _ _ c.loop-argument-test.true c.argument-item.is c.is_argument_told.ensures c.if-not-is_argument_told.true c.loop-argument.invariant

pub arguments_are_told-returns : goal.arguments_are_told-returns
arguments_are_told-returns t c = arguments_ended _ _ _ c.loop-argument-test.false c.loop-argument.invariant
