use Rattle.std.proofs.Common.{◌≡◌, ◌≤◌, ◌+◌, ◌*◌, ◌++◌, ◌∷◌, [], sym, ap, subst, ◌∙◌, length, replicate, arith}
use Rattle.std.specs.Prelude.{slice_range}
use Rattle.std.proofs.Common.{◌<◌, rules, length-append}
use Rattle.std.proofs.lemmas.Nat.{mul-le}
use Rattle.std.proofs.lemmas.List.{length-replicate}
use Rattle.mem_image.proofs.PartLaws.{holds, length-range, length-replaced}
use Rattle.mem_image.specs.Image.{replaced}
use Rattle.machine_memory.specs.Private.Windows.{windows, AreShort}
use Rattle.machine_memory.proofs.WindowLaws.{same_calls, windows_more, short_more, length-windows, untouched_below}
use Rattle.machine_memory.proofs.locals.Locals.push.Goals as goal

pub part_mut-requires : goal.part_mut-requires
part_mut-requires c =
    let l = c.self.inside in
    let shows : windows l.stride l.bytes 0 l.lens.items ≡ c.args.self.now.locals = ap (λ v. v.locals) c.self.view_is in
    let n : c.len.result ≡ length l.lens.items = c.len.ensures ∙ l.lens.ok.0 in
    let few : c.len.result < 65 = omega (arith, length-windows l.stride l.bytes 0 l.lens.items, ap length shows, c.requires.depth) in
    let fits : c.args.len ≤ l.stride = omega (arith, ap (λ v. v.stride) c.self.view_is, c.requires.short) in
    let most : (c.len.result + 1) * l.stride ≤ 65 * l.stride = mul-le (c.len.result + 1) l.stride 65 l.stride (omega arith) (omega arith) in
    let inside : c.len.result * l.stride + c.args.len ≤ length l.bytes = omega (arith, c.self.invariant.room) in
    inside

pub unreachable-requires : goal.unreachable-requires
unreachable-requires c =
    let l = c.self.inside in
    let shows : windows l.stride l.bytes 0 l.lens.items ≡ c.args.self.now.locals = ap (λ v. v.locals) c.self.view_is in
    let n : c.len.result ≡ length l.lens.items = c.len.ensures ∙ l.lens.ok.0 in
    let few : c.len.result < 65 = omega (arith, length-windows l.stride l.bytes 0 l.lens.items, ap length shows, c.requires.depth) in
    let fits : c.args.len ≤ l.stride = omega (arith, ap (λ v. v.stride) c.self.view_is, c.requires.short) in
    let most : (c.len.result + 1) * l.stride ≤ 65 * l.stride = mul-le (c.len.result + 1) l.stride 65 l.stride (omega arith) (omega arith) in
    let inside : c.len.result * l.stride + c.args.len ≤ length l.bytes = omega (arith, c.self.invariant.room) in
    omega (arith, c.in-Err.ensures.full, c.self.invariant.spare)

pub invariant_of-self : goal.invariant_of-self
invariant_of-self c =
    let l = c.self.inside in
    let shows : windows l.stride l.bytes 0 l.lens.items ≡ c.args.self.now.locals = ap (λ v. v.locals) c.self.view_is in
    let n : c.len.result ≡ length l.lens.items = c.len.ensures ∙ l.lens.ok.0 in
    let few : c.len.result < 65 = omega (arith, length-windows l.stride l.bytes 0 l.lens.items, ap length shows, c.requires.depth) in
    let fits : c.args.len ≤ l.stride = omega (arith, ap (λ v. v.stride) c.self.view_is, c.requires.short) in
    let most : (c.len.result + 1) * l.stride ≤ 65 * l.stride = mul-le (c.len.result + 1) l.stride 65 l.stride (omega arith) (omega arith) in
    let inside : c.len.result * l.stride + c.args.len ≤ length l.bytes = omega (arith, c.self.invariant.room) in
    let at = c.len.result * l.stride in
    let zeros : c.fill.new.self ≡ replicate c.args.len 0 =
    c.fill.ensures.after (λ y e. search rules) ∙ ap (λ k. replicate k 0) (ap length c.part_mut.ensures.value ∙ length-range l.bytes at c.args.len inside) in
    let long : length c.fill.new.self ≡ c.args.len = ap length zeros ∙ length-replicate c.args.len 0 in
    let fits_in : at + length c.fill.new.self ≤ length l.bytes = omega arith in
    let items : c.push.new.self.items ≡ l.lens.items ++ c.args.len ∷ [] = c.in-Ok.ensures.items in
    record {
      few = omega (arith, ap length items, length-append l.lens.items (c.args.len ∷ []));
      spare = omega (arith, c.in-Ok.ensures.capacity, c.self.invariant.spare);
      room = omega (arith, length-replaced l.bytes c.fill.new.self at fits_in, c.self.invariant.room);
      small = c.self.invariant.small;
      short = subst (AreShort l.stride) (sym items) (short_more l.stride l.lens.items c.args.len c.self.invariant.short fits);
    }

pub returns : goal.returns
returns c =
    let l = c.self.inside in
    let shows : windows l.stride l.bytes 0 l.lens.items ≡ c.args.self.now.locals = ap (λ v. v.locals) c.self.view_is in
    let n : c.len.result ≡ length l.lens.items = c.len.ensures ∙ l.lens.ok.0 in
    let few : c.len.result < 65 = omega (arith, length-windows l.stride l.bytes 0 l.lens.items, ap length shows, c.requires.depth) in
    let fits : c.args.len ≤ l.stride = omega (arith, ap (λ v. v.stride) c.self.view_is, c.requires.short) in
    let most : (c.len.result + 1) * l.stride ≤ 65 * l.stride = mul-le (c.len.result + 1) l.stride 65 l.stride (omega arith) (omega arith) in
    let inside : c.len.result * l.stride + c.args.len ≤ length l.bytes = omega (arith, c.self.invariant.room) in
    let at = c.len.result * l.stride in
    let zeros : c.fill.new.self ≡ replicate c.args.len 0 =
    c.fill.ensures.after (λ y e. search rules) ∙ ap (λ k. replicate k 0) (ap length c.part_mut.ensures.value ∙ length-range l.bytes at c.args.len inside) in
    let long : length c.fill.new.self ≡ c.args.len = ap length zeros ∙ length-replicate c.args.len 0 in
    let fits_in : at + length c.fill.new.self ≤ length l.bytes = omega arith in
    let items : c.push.new.self.items ≡ l.lens.items ++ c.args.len ∷ [] = c.in-Ok.ensures.items in
    let below : 0 + length l.lens.items * l.stride ≤ at = omega (arith, ap (λ k. k * l.stride) n) in
    let at_is : at ≡ 0 + length l.lens.items * l.stride = omega (arith, ap (λ k. k * l.stride) n) in
    let after = replaced l.bytes at c.fill.new.self in
    let last : slice_range after at (at + c.args.len) ≡ replicate c.args.len 0 = ap (λ k. slice_range after at (at + k)) (sym long) ∙ holds l.bytes c.fill.new.self at fits_in ∙ zeros in
    same_calls _ _ _ _
    (ap (windows l.stride after 0) items ∙ windows_more l.stride after 0 l.lens.items c.args.len at at_is
    ∙ ap (λ ws. ws ++ slice_range after at (at + c.args.len) ∷ []) (untouched_below l.stride l.bytes at c.fill.new.self 0 l.lens.items c.self.invariant.short fits_in below ∙ shows)
    ∙ ap (λ w. c.args.self.now.locals ++ w ∷ []) last) (ap (λ v. v.stride) c.self.view_is)
