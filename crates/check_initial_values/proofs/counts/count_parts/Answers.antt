use Rattle.check_initial_values.proofs.CountLaws.{count_next, count_too_large, count_ended}
use Rattle.check_initial_values.proofs.counts.count_parts.Goals as goal

pub returns-in_err-count : goal.returns-in_err-count
returns-in_err-count c =
    rw c.from_residual.ensures (count_too_large _ _ _ _ _ c.loop-part-test.true c.part-item.is c.loop-part.invariant.rest c.in_err-count.ensures)

pub returns : goal.returns
returns c =
    let is = count_ended _ _ _ c.loop-part-test.false c.loop-part.invariant.rest in
    (rw (← is) c.loop-part.invariant.fits, is)
