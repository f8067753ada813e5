use Rattle.std.proofs.Common.{◌≡◌, ℕ, List, ◌++◌, drop}
use Rattle.stack_code.specs.valid_code.Private.Calls.{Shares}
use Rattle.stack_code.specs.valid_code.Private.Entered.{common_at, targets_of}
use Rattle.stack_code.proofs.valid_code.entered.target_commons.Given as goal

abbrev pub invariant-entries : goal.invariant-entries
invariant-entries l = (i m : ℕ) → (ks : List ℕ) × (ks ++ targets_of l.code.targets (drop l.entry-index l.entries) i m ≡ targets_of l.code.targets l.entries i m) × Shares l.code ks (common_at l.commons (i, m))
