use Rattle.constant_folding.proofs.constant_rules.PartLaws.{OperandsTo, ArgumentsTo}
use Rattle.constant_folding.proofs.constant_rules.parts.+parts.Given as goal

abbrev pub invariant-operands_fault-loop-tail : goal.invariant-operands_fault-loop-tail
invariant-operands_fault-loop-tail l = OperandsTo l.s l.tails l.found l.tail-index

abbrev pub invariant-arguments_fault-loop-argument : goal.invariant-arguments_fault-loop-argument
invariant-arguments_fault-loop-argument l = ArgumentsTo l.s l.arguments l.found l.argument-index
