use Rattle.std.proofs.Common.{◌≡◌, ℕ, List, ◌++◌, drop}
use Rattle.stack_code.specs.valid_code.Private.Calls.{Shares, methods_of}
use Rattle.stack_code.proofs.valid_code.calls.common_method.Given as goal

abbrev pub invariant-classes : goal.invariant-classes
invariant-classes l = (ks : List ℕ) × (ks ++ methods_of l.code (drop l.class-index l.classes) l.slot ≡ methods_of l.code l.classes l.slot) × Shares l.code ks l.common
