-- Addresses that are found by offsets are those of the paths after the change.
use Rattle.std.specs.Prelude.{◌≡◌, ℕ}
use Rattle.st_types.specs.declared.st_type.StType.{StType}
use Rattle.st_values.specs.Program.{Program}
use Rattle.st_change.specs.Laws.{NamesDiffer}
use Rattle.carry_moves.specs.Addresses.{IsAim, Relocates}
use Rattle.st_values.specs.Shape.{Shape}
use Rattle.image_moves.specs.Ways.{led}
use Rattle.carry_moves.specs.Found.{found, address_moved, HasAddresses}
use Rattle.carry_moves.specs.WaysOf.{way}

pub record AddressLaws : Type 0 where
  -- what is found is what the way leads to
  pub leads : (old new : Program) (sh z : Shape) (offset : ℕ) → led (way old new sh z) offset ≡ found old new sh z offset
  pub relocates : (old new : Program) (aim : StType → ℕ) (aimed : ℕ → StType) → NamesDiffer old → HasAddresses old → HasAddresses new → ((t : StType) → IsAim t → aimed (aim t) ≡ t) → Relocates old new aim (address_moved old new aimed)
