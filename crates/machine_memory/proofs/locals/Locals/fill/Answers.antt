use Rattle.std.proofs.Common.{◌≡◌, ap, ◌∙◌, arith}
use Rattle.std.specs.Vec.{vec_capacity}
use Rattle.machine_memory.specs.Private.Windows.{windows}
use Rattle.machine_memory.proofs.WindowLaws.{same_calls, Here, here, put_here}
use Rattle.machine_memory.proofs.locals.Locals.fill.Goals as goal

pub overflow_mul-at : goal.overflow_mul-at
overflow_mul-at c =
    let l = c.self.inside in
    let shows : windows l.stride l.bytes 0 l.lens.items ≡ c.args.self.now.locals = ap (λ v. v.locals) c.self.view_is in
    let h : Here l.stride l.bytes l.lens.items c.args.self.now.locals c.args.depth = here l.stride l.bytes (vec_capacity l.lens) l.lens.items c.args.self.now.locals c.args.depth c.self.invariant shows c.requires.depth in
    omega (arith, h.small)

pub overflow_add-at : goal.overflow_add-at
overflow_add-at c =
    let l = c.self.inside in
    let shows : windows l.stride l.bytes 0 l.lens.items ≡ c.args.self.now.locals = ap (λ v. v.locals) c.self.view_is in
    let h : Here l.stride l.bytes l.lens.items c.args.self.now.locals c.args.depth = here l.stride l.bytes (vec_capacity l.lens) l.lens.items c.args.self.now.locals c.args.depth c.self.invariant shows c.requires.depth in
    omega (arith, h.small, h.size, h.short, c.requires.within)

pub fill_from-requires : goal.fill_from-requires
fill_from-requires c =
    let l = c.self.inside in
    let shows : windows l.stride l.bytes 0 l.lens.items ≡ c.args.self.now.locals = ap (λ v. v.locals) c.self.view_is in
    let h : Here l.stride l.bytes l.lens.items c.args.self.now.locals c.args.depth = here l.stride l.bytes (vec_capacity l.lens) l.lens.items c.args.self.now.locals c.args.depth c.self.invariant shows c.requires.depth in
    omega (arith, h.within, h.size, h.short, c.requires.within)

pub returns : goal.returns
returns c =
    let l = c.self.inside in
    let shows : windows l.stride l.bytes 0 l.lens.items ≡ c.args.self.now.locals = ap (λ v. v.locals) c.self.view_is in
    let h : Here l.stride l.bytes l.lens.items c.args.self.now.locals c.args.depth = here l.stride l.bytes (vec_capacity l.lens) l.lens.items c.args.self.now.locals c.args.depth c.self.invariant shows c.requires.depth in
    same_calls _ _ _ _ (ap (λ b. windows l.stride b 0 l.lens.items) (c.fill_from.ensures.after) ∙ put_here l.stride l.bytes (vec_capacity l.lens) l.lens.items c.args.self.now.locals c.args.depth c.args.offset c.args.bytes.now h c.self.invariant shows c.requires.within) (ap (λ v. v.stride) c.self.view_is)
