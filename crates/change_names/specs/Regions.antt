-- The numbers of regions before and after a change.
use Rattle.std.specs.Prelude.{◌≡◌, ℕ, List, Option, Some, None, slice_get}
use Rattle.st_values.specs.Program.{Program}
use Rattle.st_change.specs.From.{old_region, new_region}
use Rattle.change_names.specs.declared.regions.RegionNumbers.{RegionNumbers}

abbrev pub number_in : Option (Option ℕ) → Option ℕ
number_in None = None
number_in (Some o) = o

abbrev pub number_at : List (Option ℕ) → ℕ → Option ℕ
number_at numbers r = number_in (slice_get numbers r)

-- each number is that of the definition
pub record AreNumbers (old new : Program) (n : RegionNumbers) : Type 0 where
  pub before : (r : ℕ) → number_at n.old.items r ≡ old_region old new r
  pub after : (r : ℕ) → number_at n.new.items r ≡ new_region old new r
