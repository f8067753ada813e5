use Rattle.st_tree.proofs.NumberLaws.{fold-end, fold-too_large}
use Rattle.st_tree.proofs.wide.digits_value.Goals as goal

pub returns-in_err-value : goal.returns-in_err-value
returns-in_err-value c =
    rw c.from_residual.ensures
    (fold-too_large c.args.base c.loop-digit.value _ c.loop-digit.digit-index _ c.args.digits.now c.requires c.loop-digit.invariant.rest c.loop-digit-test.true c.in_err-value.ensures)

pub returns : goal.returns
returns c =
    let is = fold-end c.args.base c.loop-digit.value _ c.loop-digit.digit-index c.args.digits.now c.loop-digit.invariant.rest c.loop-digit-test.false in
    (rw (← is) c.loop-digit.invariant.fits, is)
