use Rattle.codegen_expr.proofs.FirstLaws.{positional_quiet, input_not_quiet, output_not_quiet}
use Rattle.codegen_expr.proofs.quiet.+quiet.Goals as goal

pub operand_is_quiet-returns-in-Positional : goal.operand_is_quiet-returns-in-Positional
operand_is_quiet-returns-in-Positional t c = positional_quiet c.in-Some.first.now c.args.arguments.now c.in-Positional.value c.is_quiet.result c.in-Some.ensures.value c.in-Positional.is c.is_quiet.ensures

pub operand_is_quiet-returns-in-Input : goal.operand_is_quiet-returns-in-Input
operand_is_quiet-returns-in-Input t c = input_not_quiet c.in-Some.first.now c.args.arguments.now c.in-Input.field-0 c.in-Input.field-1 c.in-Input.field-2 c.in-Some.ensures.value c.in-Input.is

pub operand_is_quiet-returns-in-Output : goal.operand_is_quiet-returns-in-Output
operand_is_quiet-returns-in-Output t c = output_not_quiet c.in-Some.first.now c.args.arguments.now c.in-Output.field-0 c.in-Output.field-1 c.in-Output.field-2 c.in-Output.field-3 c.in-Some.ensures.value c.in-Output.is
