-- Which regions are kept, as a list of flags.
use Rattle.std.specs.Prelude.{◌≡◌, ℕ, Bool, false, List, Option, Some, None, slice_get}
use Rattle.st_values.specs.Program.{Program}
use Rattle.st_change.specs.Counterpart.{kept}

abbrev pub is_set : Option Bool → Bool
is_set None = false
is_set (Some b) = b

-- the flag of each new region tells whether it is kept
pub record AreKept (old new : Program) (flags : List Bool) : Type 0 where
  pub by : (r : ℕ) → is_set (slice_get flags r) ≡ kept old new r
