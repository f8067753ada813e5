use Rattle.st_tree.specs.Expression.{arguments_of}
use Rattle.constant_folding.proofs.constant_rules.PartLaws.{paren_arm, not_arm, negate_arm, chain_arm, place_arm, call_arm, call_seen, ref_arm, now_arm, operands_next, arguments_next, positional_seen, input_seen, output_seen}
use Rattle.constant_folding.proofs.constant_rules.parts.+parts.Goals as goal

pub constant_part_fault-returns-in-Place : goal.constant_part_fault-returns-in-Place
constant_part_fault-returns-in-Place t c = place_arm _ _ _ _ _ c.in-Place.is c.place_fault.ensures

pub constant_part_fault-returns-in-Call : goal.constant_part_fault-returns-in-Call
constant_part_fault-returns-in-Call t c =
    let x = c.in-Call in
    call_arm c.args.s.now c.call_fault.result c.args.e.now x.line x.place x.arguments c.as_slice.result.now x.is c.as_slice.ensures
    (call_seen c.args.s.now c.call_fault.result c.arguments_fault-operands.result x.line x.place (arguments_of c.as_slice.result.now) c.arguments_fault-operands.ensures c.call_fault.ensures)

pub constant_part_fault-returns-in-Paren : goal.constant_part_fault-returns-in-Paren
constant_part_fault-returns-in-Paren t c = paren_arm _ _ _ _ _ _ c.in-Paren.is c.get.ensures c.constant_part_fault.ensures

pub constant_part_fault-returns-in-Not : goal.constant_part_fault-returns-in-Not
constant_part_fault-returns-in-Not t c = not_arm _ _ _ _ _ _ c.in-Not.is c.get-in-Not.ensures c.constant_part_fault-in-Not.ensures

pub constant_part_fault-returns-in-Negate : goal.constant_part_fault-returns-in-Negate
constant_part_fault-returns-in-Negate t c = negate_arm _ _ _ _ _ _ c.in-Negate.is c.get-in-Negate.ensures c.constant_part_fault-in-Negate.ensures

pub constant_part_fault-returns-in-Chain : goal.constant_part_fault-returns-in-Chain
constant_part_fault-returns-in-Chain t c =
    chain_arm _ _ _ _ _ _ _ _ _ _ c.in-Chain.is c.get-in-Chain.ensures c.as_slice-in-Chain.ensures c.constant_part_fault-front.ensures c.operands_fault-rest.ensures c.earlier.ensures

pub constant_part_fault-returns-in-Ref : goal.constant_part_fault-returns-in-Ref
constant_part_fault-returns-in-Ref t c = ref_arm _ _ _ _ _ c.in-Ref.is c.at.ensures

pub constant_part_fault-returns-in-Now : goal.constant_part_fault-returns-in-Now
constant_part_fault-returns-in-Now t c = now_arm _ _ _ _ c.in-Now.is c.at-in-Now.ensures

pub operands_fault-loop-tail-preserved : goal.operands_fault-loop-tail-preserved
operands_fault-loop-tail-preserved t c =
    operands_next _ _ _ _ _ _ _ c.loop-tail-test.true c.tail-item.is c.constant_part_fault-fault.ensures c.earlier-found.ensures c.loop-tail.invariant

pub argument_fault-returns-in-Positional : goal.argument_fault-returns-in-Positional
argument_fault-returns-in-Positional t c = positional_seen _ _ _ _ c.in-Positional.is c.constant_part_fault.ensures

pub argument_fault-returns-in-Input : goal.argument_fault-returns-in-Input
argument_fault-returns-in-Input t c = input_seen _ _ _ _ _ _ c.in-Input.is c.constant_part_fault-in-Input.ensures

pub argument_fault-returns-in-Output : goal.argument_fault-returns-in-Output
argument_fault-returns-in-Output t c = output_seen _ _ _ _ _ _ _ c.in-Output.is c.place_fault.ensures

pub arguments_fault-loop-argument-preserved : goal.arguments_fault-loop-argument-preserved
arguments_fault-loop-argument-preserved t c =
    arguments_next _ _ _ _ _ _ _ c.loop-argument-test.true c.argument-item.is c.argument_fault-fault.ensures c.earlier-found.ensures c.loop-argument.invariant
