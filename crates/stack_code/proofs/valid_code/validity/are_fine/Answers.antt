use Rattle.std.proofs.Common.{◌<◌, sym, ◌∙◌, refl, arith, length, below_more}
use Rattle.stack_code.specs.valid_code.Private.Checks.{IsFineAt}
use Rattle.stack_code.proofs.valid_code.validity.are_fine.Goals as goal

pub places-preserved : goal.places-preserved
places-preserved c =
    (c.in_ok-is_fine_at.ensures.known, below_more (λ k. IsFineAt c.args.code.now c.args.routine.now k) c.places.at c.places.invariant.1 (c.in_ok-is_fine_at.ensures.fine.0 c.if-not-branch.false))

pub returns-then-not-branch-clause-fine : goal.returns-then-not-branch-clause-fine
returns-then-not-branch-clause-fine c =
    let lt : c.places.at < length c.args.routine.now.ops = omega (arith, c.places-test.true, c.len-at-end.ensures) in
    (λ t. absurd (cc), λ all. sym c.if-not-branch.true ∙ c.in_ok-is_fine_at.ensures.fine.1 (all c.places.at lt))

pub returns-clause-fine : goal.returns-clause-fine
returns-clause-fine c = (λ t at lt. c.places.invariant.1 at (omega (arith, lt, c.places-test.false, c.len-at-end.ensures)), λ e. refl)
