use Rattle.std.proofs.Common.{◌≡◌, sym, ap, ◌∙◌, length, arith}
use Rattle.std.proofs.lemmas.Option.{slice_get_read, slice_get_past}
use Rattle.machine_memory.specs.Private.Windows.{windows}
use Rattle.machine_memory.proofs.WindowLaws.{length_at}
use Rattle.machine_memory.proofs.locals.Locals.len_at.Goals as goal

pub returns-then-depth-len : goal.returns-then-depth-len
returns-then-depth-len c =
    let l = c.self.inside in
    let shows : windows l.stride l.bytes 0 l.lens.items ≡ c.args.self.now.locals = ap (λ v. v.locals) c.self.view_is in
    sym (length_at l.stride l.bytes _ l.lens.items c.args.self.now.locals c.args.depth c.self.invariant shows ∙ slice_get_read l.lens.items _ c.args.depth c.index.result.now (c.len.ensures ∙ l.lens.ok.0) c.if-depth-len.true c.index.ensures)

pub returns-else-depth-len : goal.returns-else-depth-len
returns-else-depth-len c =
    let l = c.self.inside in
    let shows : windows l.stride l.bytes 0 l.lens.items ≡ c.args.self.now.locals = ap (λ v. v.locals) c.self.view_is in
    sym (length_at l.stride l.bytes _ l.lens.items c.args.self.now.locals c.args.depth c.self.invariant shows ∙ slice_get_past l.lens.items c.args.depth (let e : c.len.result ≡ length l.lens.items = c.len.ensures ∙ l.lens.ok.0 in omega arith))
