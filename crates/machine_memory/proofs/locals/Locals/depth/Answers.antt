use Rattle.std.proofs.Common.{◌≡◌, sym, ap, ◌∙◌, length}
use Rattle.machine_memory.specs.Private.Windows.{windows}
use Rattle.machine_memory.proofs.WindowLaws.{length-windows}
use Rattle.machine_memory.proofs.locals.Locals.depth.Goals as goal

pub returns-clause-value : goal.returns-clause-value
returns-clause-value c =
    let l = c.self.inside in
    let shows : windows l.stride l.bytes 0 l.lens.items ≡ c.args.self.now.locals = ap (λ v. v.locals) c.self.view_is in
    c.len.ensures ∙ l.lens.ok.0 ∙ sym (length-windows l.stride l.bytes 0 l.lens.items) ∙ ap length shows
