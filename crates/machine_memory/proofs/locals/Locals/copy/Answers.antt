use Rattle.std.proofs.Common.{◌≡◌, ◌+◌, ◌*◌, ◌≤◌, [], sym, ap, ◌∙◌, length, get_or, arith}
use Rattle.std.specs.Prelude.{slice_range}
use Rattle.std.specs.Vec.{vec_capacity}
use Rattle.mem_image.specs.Image.{replaced}
use Rattle.mem_image.proofs.PartLaws.{length-range}
use Rattle.machine_memory.specs.Private.Windows.{windows}
use Rattle.machine_memory.proofs.WindowLaws.{same_calls, Here, here, put_here, part_here}
use Rattle.machine_memory.proofs.locals.Locals.copy.Goals as goal

pub overflow_mul-target : goal.overflow_mul-target
overflow_mul-target c =
    let l = c.self.inside in
    let shows : windows l.stride l.bytes 0 l.lens.items ≡ c.args.self.now.locals = ap (λ v. v.locals) c.self.view_is in
    let h : Here l.stride l.bytes l.lens.items c.args.self.now.locals c.args.to = here l.stride l.bytes (vec_capacity l.lens) l.lens.items c.args.self.now.locals c.args.to c.self.invariant shows c.requires.to in
    omega (arith, h.small)

pub overflow_mul-source : goal.overflow_mul-source
overflow_mul-source c =
    let l = c.self.inside in
    let shows : windows l.stride l.bytes 0 l.lens.items ≡ c.args.self.now.locals = ap (λ v. v.locals) c.self.view_is in
    let h : Here l.stride l.bytes l.lens.items c.args.self.now.locals c.args.from = here l.stride l.bytes (vec_capacity l.lens) l.lens.items c.args.self.now.locals c.args.from c.self.invariant shows c.requires.from in
    omega (arith, h.small)

pub overflow_add-target : goal.overflow_add-target
overflow_add-target c =
    let l = c.self.inside in
    let shows : windows l.stride l.bytes 0 l.lens.items ≡ c.args.self.now.locals = ap (λ v. v.locals) c.self.view_is in
    let h : Here l.stride l.bytes l.lens.items c.args.self.now.locals c.args.to = here l.stride l.bytes (vec_capacity l.lens) l.lens.items c.args.self.now.locals c.args.to c.self.invariant shows c.requires.to in
    let k : Here l.stride l.bytes l.lens.items c.args.self.now.locals c.args.from = here l.stride l.bytes (vec_capacity l.lens) l.lens.items c.args.self.now.locals c.args.from c.self.invariant shows c.requires.from in
    omega (arith, h.small, h.size, h.short, c.requires.target)

pub overflow_add-source : goal.overflow_add-source
overflow_add-source c =
    let l = c.self.inside in
    let shows : windows l.stride l.bytes 0 l.lens.items ≡ c.args.self.now.locals = ap (λ v. v.locals) c.self.view_is in
    let h : Here l.stride l.bytes l.lens.items c.args.self.now.locals c.args.to = here l.stride l.bytes (vec_capacity l.lens) l.lens.items c.args.self.now.locals c.args.to c.self.invariant shows c.requires.to in
    let k : Here l.stride l.bytes l.lens.items c.args.self.now.locals c.args.from = here l.stride l.bytes (vec_capacity l.lens) l.lens.items c.args.self.now.locals c.args.from c.self.invariant shows c.requires.from in
    omega (arith, k.small, k.size, k.short, c.requires.source)

pub copy_within_image-requires-clause-target : goal.copy_within_image-requires-clause-target
copy_within_image-requires-clause-target c =
    let l = c.self.inside in
    let shows : windows l.stride l.bytes 0 l.lens.items ≡ c.args.self.now.locals = ap (λ v. v.locals) c.self.view_is in
    let h : Here l.stride l.bytes l.lens.items c.args.self.now.locals c.args.to = here l.stride l.bytes (vec_capacity l.lens) l.lens.items c.args.self.now.locals c.args.to c.self.invariant shows c.requires.to in
    let k : Here l.stride l.bytes l.lens.items c.args.self.now.locals c.args.from = here l.stride l.bytes (vec_capacity l.lens) l.lens.items c.args.self.now.locals c.args.from c.self.invariant shows c.requires.from in
    omega (arith, h.within, h.size, h.short, c.requires.target)

pub copy_within_image-requires-clause-source : goal.copy_within_image-requires-clause-source
copy_within_image-requires-clause-source c =
    let l = c.self.inside in
    let shows : windows l.stride l.bytes 0 l.lens.items ≡ c.args.self.now.locals = ap (λ v. v.locals) c.self.view_is in
    let h : Here l.stride l.bytes l.lens.items c.args.self.now.locals c.args.to = here l.stride l.bytes (vec_capacity l.lens) l.lens.items c.args.self.now.locals c.args.to c.self.invariant shows c.requires.to in
    let k : Here l.stride l.bytes l.lens.items c.args.self.now.locals c.args.from = here l.stride l.bytes (vec_capacity l.lens) l.lens.items c.args.self.now.locals c.args.from c.self.invariant shows c.requires.from in
    omega (arith, k.within, k.size, k.short, c.requires.source)

pub returns : goal.returns
returns c =
    let l = c.self.inside in
    let shows : windows l.stride l.bytes 0 l.lens.items ≡ c.args.self.now.locals = ap (λ v. v.locals) c.self.view_is in
    let h : Here l.stride l.bytes l.lens.items c.args.self.now.locals c.args.to = here l.stride l.bytes (vec_capacity l.lens) l.lens.items c.args.self.now.locals c.args.to c.self.invariant shows c.requires.to in
    let k : Here l.stride l.bytes l.lens.items c.args.self.now.locals c.args.from = here l.stride l.bytes (vec_capacity l.lens) l.lens.items c.args.self.now.locals c.args.from c.self.invariant shows c.requires.from in
    let size : length (slice_range (get_or c.args.self.now.locals c.args.from []) c.args.from_offset (c.args.from_offset + c.args.len)) ≡ c.args.len = length-range (get_or c.args.self.now.locals c.args.from []) c.args.from_offset c.args.len c.requires.source in
    let fits : c.args.to_offset + length (slice_range (get_or c.args.self.now.locals c.args.from []) c.args.from_offset (c.args.from_offset + c.args.len)) ≤ length (get_or c.args.self.now.locals c.args.to []) = omega (arith, c.requires.target) in
    same_calls _ _ _ _ (ap (λ b. windows l.stride b 0 l.lens.items) (c.copy_within_image.ensures.after ∙ ap (replaced l.bytes (c.args.to * l.stride + c.args.to_offset)) (sym (part_here l.stride l.bytes l.lens.items c.args.self.now.locals c.args.from c.args.from_offset c.args.len k c.requires.source))) ∙ put_here l.stride l.bytes (vec_capacity l.lens) l.lens.items c.args.self.now.locals c.args.to c.args.to_offset (slice_range (get_or c.args.self.now.locals c.args.from []) c.args.from_offset (c.args.from_offset + c.args.len)) h c.self.invariant shows fits) (ap (λ v. v.stride) c.self.view_is)
