use Rattle.std.proofs.lemmas.Result.{on_ok_weaker}
use Rattle.st_tree.specs.Expression.{expression_of}
use Rattle.code_rules.specs.Code.{named_code}
use Rattle.codegen_tables.specs.Context.{plan_in}
use Rattle.codegen_body.specs.Counting.{seen_expression}
use Rattle.codegen_body.proofs.CountLaws.{head_goes}
use Rattle.codegen_body.proofs.counting.emit_head.Goals as goal

pub returns : goal.returns
returns c =
    on_ok_weaker c.emit_stored.result (λ h. head_goes (plan_in c.args.c.now) c.args.line c.args.free c.args.kinds (named_code (plan_in c.args.c.now) c.args.line c.args.target.now) (expression_of c.args.from.now) (expression_of c.args.to.now) (seen_expression c.args.by.now)
    c.args.cells.now.items _ _ _ _ _ _ c.in_ok-step.step c.in_ok-step.ensures c.in_ok-emit_value.ensures c.in_ok-emit_value-2.ensures c.in_ok-emit_kept_number.ensures c.in_ok-emit_step.ensures c.in_ok-emit_kept_number-2.ensures h) c.emit_stored.ensures
