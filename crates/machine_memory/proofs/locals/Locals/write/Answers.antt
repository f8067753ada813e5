use Rattle.std.proofs.Common.{◌≡◌, ◌+◌, ◌*◌, ◌≤◌, [], ap, ◌∙◌, length, get_or, arith}
use Rattle.std.specs.Int.{w128}
use Rattle.std.specs.Vec.{vec_capacity}
use Rattle.std.proofs.lemmas.Int.{to_z-of_z}
use Rattle.mem_image.specs.Image.{bytes_of, written}
use Rattle.machine_memory.specs.Private.Windows.{windows}
use Rattle.machine_memory.proofs.WindowLaws.{same_calls, Here, here, put_here, spelled}
use Rattle.machine_memory.proofs.locals.Locals.write.Goals as goal

pub overflow_mul-at : goal.overflow_mul-at
overflow_mul-at c =
    let l = c.self.inside in
    let shows : windows l.stride l.bytes 0 l.lens.items ≡ c.args.self.now.locals = ap (λ v. v.locals) c.self.view_is in
    let h : Here l.stride l.bytes l.lens.items c.args.self.now.locals c.args.depth = here l.stride l.bytes (vec_capacity l.lens) l.lens.items c.args.self.now.locals c.args.depth c.self.invariant shows c.requires.depth in
    omega (arith, h.small)

pub overflow_add-at : goal.overflow_add-at
overflow_add-at c =
    let l = c.self.inside in
    let shows : windows l.stride l.bytes 0 l.lens.items ≡ c.args.self.now.locals = ap (λ v. v.locals) c.self.view_is in
    let h : Here l.stride l.bytes l.lens.items c.args.self.now.locals c.args.depth = here l.stride l.bytes (vec_capacity l.lens) l.lens.items c.args.self.now.locals c.args.depth c.self.invariant shows c.requires.depth in
    omega (arith, h.small, h.size, h.short, c.requires.within)

pub write-requires-clause-within : goal.write-requires-clause-within
write-requires-clause-within c =
    let l = c.self.inside in
    let shows : windows l.stride l.bytes 0 l.lens.items ≡ c.args.self.now.locals = ap (λ v. v.locals) c.self.view_is in
    let h : Here l.stride l.bytes l.lens.items c.args.self.now.locals c.args.depth = here l.stride l.bytes (vec_capacity l.lens) l.lens.items c.args.self.now.locals c.args.depth c.self.invariant shows c.requires.depth in
    omega (arith, h.within, h.size, h.short, c.requires.within)

pub returns : goal.returns
returns c =
    let l = c.self.inside in
    let shows : windows l.stride l.bytes 0 l.lens.items ≡ c.args.self.now.locals = ap (λ v. v.locals) c.self.view_is in
    let h : Here l.stride l.bytes l.lens.items c.args.self.now.locals c.args.depth = here l.stride l.bytes (vec_capacity l.lens) l.lens.items c.args.self.now.locals c.args.depth c.self.invariant shows c.requires.depth in
    let size = spelled c.args.e c.args.v in
    let fits : c.args.offset + length (bytes_of c.args.e c.args.v) ≤ length (get_or c.args.self.now.locals c.args.depth []) = omega (arith, c.requires.within) in
    same_calls _ _ _ _ (ap (λ b. windows l.stride b 0 l.lens.items) (c.write.ensures.after ∙ ap (written c.args.e l.bytes (c.args.depth * l.stride + c.args.offset)) (to_z-of_z w128 c.args.v c.ranges.v)) ∙ put_here l.stride l.bytes (vec_capacity l.lens) l.lens.items c.args.self.now.locals c.args.depth c.args.offset (bytes_of c.args.e c.args.v) h c.self.invariant shows fits) (ap (λ v. v.stride) c.self.view_is)
