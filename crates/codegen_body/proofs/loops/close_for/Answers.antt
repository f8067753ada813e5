use Rattle.std.proofs.lemmas.Result.{on_ok_weaker}
use Rattle.code_rules.specs.Bodies.{within_code}
use Rattle.code_rules.specs.Code.{named_code}
use Rattle.codegen_tables.specs.Context.{plan_in}
use Rattle.codegen_body.proofs.LoopLaws.{counted_goes}
use Rattle.codegen_body.proofs.loops.close_for.Goals as goal

pub returns : goal.returns
returns c =
    on_ok_weaker c.close_loop.result (λ h. counted_goes c.args.line c.args.end (within_code c.args.line c.args.free c.args.kinds.variable c.args.kinds.end c.args.kinds.step (named_code (plan_in c.args.c.now) c.args.line c.args.target.now)) c.args.cells.now.items _ _ _
    c.in_ok-emit_past.ensures c.in_ok-emit_test.ensures h) c.close_loop.ensures
