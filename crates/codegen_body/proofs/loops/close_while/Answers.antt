use Rattle.std.proofs.lemmas.Result.{on_ok_weaker}
use Rattle.st_tree.specs.Expression.{expression_of}
use Rattle.code_rules.specs.Code.{value_code}
use Rattle.codegen_tables.specs.Context.{plan_in}
use Rattle.codegen_body.proofs.LoopLaws.{closed_goes, counted_goes}
use Rattle.codegen_body.proofs.loops.close_while.Goals as goal

pub returns : goal.returns
returns c =
    on_ok_weaker c.does.result (λ h. closed_goes c.args.line c.args.end (value_code (plan_in c.args.c.now) c.args.line c.args.free (expression_of c.args.e.now)) c.args.cells.now.items _ _
    (counted_goes c.args.line c.args.end (value_code (plan_in c.args.c.now) c.args.line c.args.free (expression_of c.args.e.now)) c.args.cells.now.items _ _ _ c.in_ok-emit_past.ensures c.in_ok-emit_condition.ensures c.in_ok-close_loop.ensures) h) c.does.ensures
