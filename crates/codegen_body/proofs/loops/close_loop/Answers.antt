use Rattle.std.proofs.Common.{◌-◌, ap, ◌∙◌}
use Rattle.std.proofs.lemmas.Result.{on_ok_weaker}
use Rattle.codegen_body.proofs.LoopLaws.{rounded_goes}
use Rattle.codegen_body.proofs.loops.close_loop.Goals as goal

pub returns : goal.returns
returns c =
    on_ok_weaker c.does.result (λ h. rounded_goes c.args.line c.args.end c.args.cells.now.items c.set.new.cells.items _ c.in_ok-far.far (c.in_ok-far.ensures ∙ ap (λ n. n - c.args.end) (c.len-2.ensures ∙ c.args.cells.now.ok.0)) c.set.ensures h) c.does.ensures
