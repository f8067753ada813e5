-- A search upward from a class, by a count of steps.
use Rattle.std.specs.Prelude.{ℕ, zero, suc, List, Option, None, option_and_then, slice_get}
use Rattle.st_rules.specs.Chains.{◌or_else◌}

-- from one upward, so many at most
abbrev pub upward : {X : Type 0} → (ℕ → Option X) → (ℕ → Option ℕ) → ℕ → ℕ → Option X
upward has above zero c = None
upward has above (suc n) c = has c or_else option_and_then (upward has above n) (above c)

-- the number of the base, where a class has one that is found
abbrev pub base_in : List (Option ℕ) → ℕ → Option ℕ
base_in bases c = option_and_then (λ b. b) (slice_get bases c)
