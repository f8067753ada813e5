use Rattle.std.proofs.lemmas.Result.{on_ok_weaker}
use Rattle.code_rules.specs.Code.{named_code}
use Rattle.codegen_tables.specs.Context.{plan_in}
use Rattle.codegen_body.proofs.CountLaws.{advance_goes}
use Rattle.codegen_body.proofs.counting.emit_advance.Goals as goal

pub returns : goal.returns
returns c =
    on_ok_weaker c.emit_stored-2.result (λ h. advance_goes c.args.line c.args.free c.args.kinds (named_code (plan_in c.args.c.now) c.args.line c.args.target.now) c.args.cells.now.items _ _ _ _ _ c.in_ok-step.step c.named_length.result c.in_ok-past.past
    c.in_ok-step.ensures c.named_length.ensures c.in_ok-past.ensures c.in_ok-emit_raised.ensures c.in_ok-push.ensures c.in_ok-emit_stored.ensures c.in_ok-push-2.ensures h) c.emit_stored-2.ensures
