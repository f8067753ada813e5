use Rattle.std.proofs.Common.{◌≡◌, ap, ◌∙◌, arith}
use Rattle.std.specs.Int.{w128}
use Rattle.std.specs.Vec.{vec_capacity}
use Rattle.std.proofs.Common.{rules, to_z, of_z}
use Rattle.machine_memory.specs.Private.Windows.{windows}
use Rattle.machine_memory.proofs.WindowLaws.{Here, here, value_here}
use Rattle.machine_memory.proofs.locals.Locals.read.Goals as goal

pub overflow_mul-depth : goal.overflow_mul-depth
overflow_mul-depth c =
    let l = c.self.inside in
    let shows : windows l.stride l.bytes 0 l.lens.items ≡ c.args.self.now.locals = ap (λ v. v.locals) c.self.view_is in
    let h : Here l.stride l.bytes l.lens.items c.args.self.now.locals c.args.depth = here l.stride l.bytes (vec_capacity l.lens) l.lens.items c.args.self.now.locals c.args.depth c.self.invariant shows c.requires.depth in
    omega (arith, h.small)

pub overflow_add-depth : goal.overflow_add-depth
overflow_add-depth c =
    let l = c.self.inside in
    let shows : windows l.stride l.bytes 0 l.lens.items ≡ c.args.self.now.locals = ap (λ v. v.locals) c.self.view_is in
    let h : Here l.stride l.bytes l.lens.items c.args.self.now.locals c.args.depth = here l.stride l.bytes (vec_capacity l.lens) l.lens.items c.args.self.now.locals c.args.depth c.self.invariant shows c.requires.depth in
    omega (arith, h.small, h.size, h.short, c.requires.within)

pub read-requires : goal.read-requires
read-requires c =
    let l = c.self.inside in
    let shows : windows l.stride l.bytes 0 l.lens.items ≡ c.args.self.now.locals = ap (λ v. v.locals) c.self.view_is in
    let h : Here l.stride l.bytes l.lens.items c.args.self.now.locals c.args.depth = here l.stride l.bytes (vec_capacity l.lens) l.lens.items c.args.self.now.locals c.args.depth c.self.invariant shows c.requires.depth in
    omega (arith, h.within, h.size, h.short, c.requires.within)

pub returns : goal.returns
returns c =
    let l = c.self.inside in
    let shows : windows l.stride l.bytes 0 l.lens.items ≡ c.args.self.now.locals = ap (λ v. v.locals) c.self.view_is in
    let h : Here l.stride l.bytes l.lens.items c.args.self.now.locals c.args.depth = here l.stride l.bytes (vec_capacity l.lens) l.lens.items c.args.self.now.locals c.args.depth c.self.invariant shows c.requires.depth in
    (let e : to_z w128 (of_z w128 c.read.result) ≡ c.read.result = search rules in e) ∙ c.read.ensures ∙ value_here c.args.e l.stride l.bytes l.lens.items c.args.self.now.locals c.args.depth c.args.offset h c.requires.within
