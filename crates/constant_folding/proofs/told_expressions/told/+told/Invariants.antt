use Rattle.constant_folding.proofs.told_expressions.ToldLaws.{OperandsTo, ArgumentsTo}
use Rattle.constant_folding.proofs.told_expressions.told.+told.Given as goal

abbrev pub invariant-operands_are_told-loop-tail : goal.invariant-operands_are_told-loop-tail
invariant-operands_are_told-loop-tail l = OperandsTo l.s l.tails l.tail-index

abbrev pub invariant-arguments_are_told-loop-argument : goal.invariant-arguments_are_told-loop-argument
invariant-arguments_are_told-loop-argument l = ArgumentsTo l.s l.arguments l.argument-index
