use Rattle.std.proofs.Common.{◌≡◌, ◌+◌, ◌-◌, suc, refl, sym, ◌∙◌, subst, arith}
use Rattle.mem_layout.specs.Private.Way.{Enters, EntersIf, Towards}
use Rattle.mem_layout.proofs.WayLaws.{towards_next, none_enters, none_deeper, reached, reach_far}
use Rattle.mem_layout.proofs.ways.way.Goals as goal
use Rattle.mem_layout.proofs.ways.way.Goals.{then-left-gt0, else-left-gt0+then-not-is_own}

pub returns-then-deep-eq0 : goal.returns-then-deep-eq0
returns-then-deep-eq0 c = λ p sh f r h s.
    let g = subst (λ d. Towards p d sh c.args.offset c.inward.steps c.inward.at.now c.inward.left) c.if-deep-eq0.true (c.inward.invariant.towards p sh f r h s) in
    none_deeper p sh c.args.offset c.inward.steps c.inward.at.now c.inward.left g
    (λ z. elim c.if-left-gt0.branch [
      | then-left-gt0 w ↦ absurd (omega (arith, w.if-left-gt0.true, z))
      | else-left-gt0+then-not-is_own w ↦ sym (w.is_own.ensures p 0 g.shape g.unfolds) ∙ w.if-not-is_own.true
    ])

pub returns-in_default : goal.returns-in_default
returns-in_default c = λ p sh f r h s.
    let m = c.inward.deep - 1 in
    let ne = c.if-deep-eq0.false in
    let under = c.inward.invariant.under in
    let e : c.inward.deep ≡ suc m = omega (arith, ne) in
    let far : suc m + (c.args.depth - c.inward.deep) ≡ c.args.depth = omega (arith, e, under) in
    let g = subst (λ d. Towards p d sh c.args.offset c.inward.steps c.inward.at.now c.inward.left) e (c.inward.invariant.towards p sh f r h s) in
    let x = c.in_ok-next.ensures p m g.shape f (reach_far p (suc m) (c.args.depth - c.inward.deep) c.args.depth c.args.tables.now far r) g.unfolds g.small in
    none_enters p (suc m) m sh c.args.offset c.inward.steps c.inward.at.now c.inward.left g
    (λ z. elim c.if-left-gt0.branch [
      | then-left-gt0 w ↦ absurd (omega (arith, w.if-left-gt0.true, z))
      | else-left-gt0+then-not-is_own w ↦ sym (w.is_own.ensures p (suc m) g.shape g.unfolds) ∙ w.if-not-is_own.true
    ])
    (subst (EntersIf p m g.shape c.inward.left) c.in_default.is x)

pub returns-in_default-checked_sub : goal.returns-in_default-checked_sub
returns-in_default-checked_sub c = λ p sh f r h s.
    let m = c.inward.deep - 1 in
    let ne = c.if-deep-eq0.false in
    let under = c.inward.invariant.under in
    let e : c.inward.deep ≡ suc m = omega (arith, ne) in
    let far : suc m + (c.args.depth - c.inward.deep) ≡ c.args.depth = omega (arith, e, under) in
    let g = subst (λ d. Towards p d sh c.args.offset c.inward.steps c.inward.at.now c.inward.left) e (c.inward.invariant.towards p sh f r h s) in
    let x = c.in_ok-next.ensures p m g.shape f (reach_far p (suc m) (c.args.depth - c.inward.deep) c.args.depth c.args.tables.now far r) g.unfolds g.small in
    let y : Enters p m g.shape c.inward.left c.in-Some.next = subst (EntersIf p m g.shape c.inward.left) c.in-Some.is x in
    absurd (c.in_default-checked_sub.ensures y.before)

pub inward-preserved : goal.inward-preserved
inward-preserved c =
    let m = c.inward.deep - 1 in
    let ne = c.if-deep-eq0.false in
    let under = c.inward.invariant.under in
    let e : c.inward.deep ≡ suc m = omega (arith, ne) in
    let far : suc m + (c.args.depth - c.inward.deep) ≡ c.args.depth = omega (arith, e, under) in
    record {
      under = omega (arith, under, e);
      towards = λ p sh f r h s.
          let g = subst (λ d. Towards p d sh c.args.offset c.inward.steps c.inward.at.now c.inward.left) e (c.inward.invariant.towards p sh f r h s) in
          let x = c.in_ok-next.ensures p m g.shape f (reach_far p (suc m) (c.args.depth - c.inward.deep) c.args.depth c.args.tables.now far r) g.unfolds g.small in
          let y : Enters p m g.shape c.inward.left c.in-Some.next = subst (EntersIf p m g.shape c.inward.left) c.in-Some.is x in
          towards_next p m sh c.args.offset c.inward.steps c.push.new.self c.inward.at.now c.inward.left c.in-Some-checked_sub.rest c.in-Some.next c.in-Some.next.kind.now g
          (λ z. elim c.if-left-gt0.branch [
            | then-left-gt0 w ↦ absurd (omega (arith, w.if-left-gt0.true, z))
            | else-left-gt0+then-not-is_own w ↦ sym (w.is_own.ensures p (suc m) g.shape g.unfolds) ∙ w.if-not-is_own.true
          ])
          y c.in_ok-push.ensures.ok c.in-Some-checked_sub.ensures.1 refl;
    }

pub returns : goal.returns
returns c = λ p sh f r h s.
    let g = c.inward.invariant.towards p sh f r h s in
    let z = c.if-left-gt0.false in
    let left : c.inward.left ≡ 0 = omega (arith, z) in
    reached p c.inward.deep sh c.args.offset c.inward.steps c.inward.at.now c.inward.left g left (sym (c.is_own.ensures p c.inward.deep g.shape g.unfolds) ∙ c.if-not-is_own.false)
