use Rattle.std.proofs.Common.{◌<◌, ℕ}
use Rattle.stack_code.specs.valid_code.Private.Checks.{IsFineAt}
use Rattle.stack_code.specs.valid_code.Private.Entered.{IsKnown}
use Rattle.stack_code.proofs.valid_code.validity.are_fine.Given as goal

abbrev pub invariant-places : goal.invariant-places
invariant-places l = IsKnown l.code l.entered × ((at : ℕ) → at < l.at → IsFineAt l.code l.routine at)
