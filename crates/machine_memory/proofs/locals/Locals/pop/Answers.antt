use Rattle.std.proofs.Common.{◌≡◌, ◌-◌, sym, ap, subst, ◌∙◌, length, take, arith}
use Rattle.std.specs.Vec.{vec_len}
use Rattle.machine_memory.specs.Private.Windows.{windows, AreShort}
use Rattle.machine_memory.proofs.WindowLaws.{same_calls, windows_take, short_take, length-windows}
use Rattle.machine_memory.proofs.locals.Locals.pop.Goals as goal

pub invariant_of-self : goal.invariant_of-self
invariant_of-self c =
    let l = c.self.inside in
    let shows : windows l.stride l.bytes 0 l.lens.items ≡ c.args.self.now.locals = ap (λ v. v.locals) c.self.view_is in
    let rest = c.pop.ensures.rest in
    let capacity = c.pop.ensures.capacity in
    record {
      few = omega (arith, c.self.invariant.few, c.pop.ensures.len);
      spare = omega (arith, c.self.invariant.spare);
      room = c.self.invariant.room;
      small = c.self.invariant.small;
      short = subst (AreShort l.stride) (sym rest) (short_take l.stride _ l.lens.items c.self.invariant.short);
    }

pub returns : goal.returns
returns c =
    let l = c.self.inside in
    let shows : windows l.stride l.bytes 0 l.lens.items ≡ c.args.self.now.locals = ap (λ v. v.locals) c.self.view_is in
    let size : vec_len l.lens - 1 ≡ length c.args.self.now.locals - 1 = ap (λ n. n - 1) (l.lens.ok.0 ∙ sym (length-windows l.stride l.bytes 0 l.lens.items) ∙ ap length shows) in
    same_calls _ _ _ _ (ap (windows l.stride l.bytes 0) c.pop.ensures.rest ∙ windows_take l.stride l.bytes 0 (vec_len l.lens - 1) l.lens.items ∙ ap (λ k. take k (windows l.stride l.bytes 0 l.lens.items)) size ∙ ap (take (length c.args.self.now.locals - 1)) shows) (ap (λ v. v.stride) c.self.view_is)
