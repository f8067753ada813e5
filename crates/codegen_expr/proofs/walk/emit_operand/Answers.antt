use Rattle.std.proofs.lemmas.Result.{on_ok_weaker}
use Rattle.codegen_tables.specs.Context.{plan_in}
use Rattle.codegen_expr.proofs.FirstLaws.{positional_operand, input_operand, output_operand}
use Rattle.codegen_expr.proofs.walk.emit_operand.Goals as goal

pub returns-in-Positional : goal.returns-in-Positional
returns-in-Positional c =
    on_ok_weaker c.emit_value.result (λ h. positional_operand (plan_in c.args.c.now) c.args.line c.args.free c.in-Some.first.now c.args.arguments.now c.args.cells.now.items c.in-Positional.value _ c.in-Some.ensures.value c.in-Positional.is h) c.emit_value.ensures

pub returns-in-Input : goal.returns-in-Input
returns-in-Input c =
    input_operand (plan_in c.args.c.now) c.args.line c.args.free c.in-Some.first.now c.args.arguments.now c.args.cells.now.items c.in-Input.field-0 c.in-Input.field-1 c.in-Input.field-2 c.in-Some.ensures.value c.in-Input.is

pub returns-in-Output : goal.returns-in-Output
returns-in-Output c =
    output_operand (plan_in c.args.c.now) c.args.line c.args.free c.in-Some.first.now c.args.arguments.now c.args.cells.now.items c.in-Output.field-0 c.in-Output.field-1 c.in-Output.field-2 c.in-Output.field-3 c.in-Some.ensures.value c.in-Output.is
