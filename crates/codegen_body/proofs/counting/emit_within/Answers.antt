use Rattle.std.proofs.lemmas.Result.{on_ok_weaker}
use Rattle.code_rules.specs.Code.{named_code}
use Rattle.codegen_tables.specs.Context.{plan_in}
use Rattle.codegen_body.proofs.CountLaws.{within_goes}
use Rattle.codegen_body.proofs.counting.emit_within.Goals as goal

pub returns : goal.returns
returns c =
    on_ok_weaker c.emit_compared-2.result (λ h. within_goes c.args.line c.args.free c.args.kinds (named_code (plan_in c.args.c.now) c.args.line c.args.target.now) c.args.cells.now.items _ _ _ _ c.in_ok-step.step c.named_length.result c.in_ok-past.past c.in_ok-beyond.beyond
    c.in_ok-step.ensures c.named_length.ensures c.in_ok-past.ensures c.in_ok-beyond.ensures c.in_ok-emit_sign.ensures c.in_ok-emit_compared.ensures c.in_ok-push.ensures h) c.emit_compared-2.ensures
