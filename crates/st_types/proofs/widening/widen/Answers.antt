use Rattle.std.proofs.Common.{◌≡◌, subst, arith}
use Rattle.st_types.proofs.WideningLaws.{NoneBefore, one_more, first_common, none_common}
use Rattle.st_types.proofs.widening.widen.Goals as goal
use Rattle.st_types.proofs.widening.widen.Goals.{else-reaches-via-then-reaches+else-reaches-2, else-reaches-via-else-reaches}

pub loop-k-init : goal.loop-k-init
loop-k-init c = λ k before p q. absurd (omega (arith, before))

pub returns-then-reaches-2 : goal.returns-then-reaches-2
returns-then-reaches-2 c = first_common _ _ _ c.loop-k-test.true c.loop-k.invariant (c.reaches.ensures.0 cc) (c.reaches-then-reaches.ensures.0 cc)

pub loop-k-preserved : goal.loop-k-preserved
loop-k-preserved c = one_more _ _ _ c.loop-k-test.true c.loop-k.invariant (elim c.else-reaches.branch [
  | else-reaches-via-then-reaches+else-reaches-2 w ↦ λ p q. (let no = w.if-reaches-2.false in let yes = w.reaches-then-reaches.ensures.1 q in cc)
  | else-reaches-via-else-reaches w ↦ λ p q. (let no = w.if-reaches.false in let yes = c.reaches.ensures.1 p in cc)
])

pub returns : goal.returns
returns c = none_common _ _ (let full : c.loop-k.k-index ≡ 14 = omega (arith, c.loop-k.auto, c.loop-k-test.false) in subst (NoneBefore _ _) full c.loop-k.invariant)
