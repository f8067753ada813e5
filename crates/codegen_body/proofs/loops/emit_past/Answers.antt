use Rattle.std.proofs.Common.{◌-◌, ap, ◌∙◌}
use Rattle.std.proofs.lemmas.Result.{on_ok_weaker}
use Rattle.codegen_body.proofs.LoopLaws.{passed_goes}
use Rattle.codegen_body.proofs.loops.emit_past.Goals as goal

pub returns : goal.returns
returns c =
    on_ok_weaker c.push.result (λ h. passed_goes c.args.line c.args.end c.args.cells.now.items _ c.in_ok-past.past (c.in_ok-past.ensures ∙ ap (λ n. n - c.args.end) (c.len-2.ensures ∙ c.args.cells.now.ok.0)) h) c.push.ensures
