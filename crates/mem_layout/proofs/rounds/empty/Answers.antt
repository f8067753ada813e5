use Rattle.std.proofs.Common.{◌≡◌, [], ◌∷◌, None, length, length-append, ap, subst, arith}
use Rattle.std.specs.Prelude.{Some, slice_get}
use Rattle.mem_layout.proofs.RoundLaws.{none_first, none_more}
use Rattle.mem_layout.proofs.rounds.empty.Goals as goal

pub loop-k-init : goal.loop-k-init
loop-k-init c = record { long = ap length c.new-all.ensures; none = λ k e. none_first c.new-all.result c.new-all.ensures k e }

pub loop-k-preserved : goal.loop-k-preserved
loop-k-preserved c =
    let e = c.in_ok-push.ensures.ok in
    let l = c.loop-k.invariant.long in
    let n = length-append c.loop-k.all (None ∷ []) in
    let m = ap length e in
    record {
      long = omega (arith, l, n, m);
      none = λ k x q. none_more c.loop-k.all (λ j f. c.loop-k.invariant.none j f) k x (subst (λ z. slice_get z k ≡ Some (Some x)) e q);
    }
