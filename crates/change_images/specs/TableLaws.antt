-- The table of ways relocates addresses as the change asks.
use Rattle.std.specs.Prelude.{◌≡◌, ℕ, Bool, List, Option, Some, None, slice_get}
use Rattle.st_types.specs.declared.st_type.StType.{StType}
use Rattle.st_values.specs.Program.{Program, conforms}
use Rattle.st_values.specs.Value.{◌>>=◌}
use Rattle.st_values.specs.Shape.{region_shape}
use Rattle.st_change.specs.From.{new_region}
use Rattle.st_change.specs.Laws.{NamesDiffer}
use Rattle.image_moves.specs.Ways.{Way}
use Rattle.image_moves.specs.WayViews.{way_of}
use Rattle.image_moves.specs.declared.table.Target.{Target}
use Rattle.image_moves.specs.Table.{may_go, address_moved}
use Rattle.carry_moves.specs.Addresses.{IsAim, Relocates}
use Rattle.carry_moves.specs.Found.{HasAddresses}
use Rattle.carry_moves.specs.WaysOf.{way}

abbrev pub target_seen : Option (Option Target) → Option (ℕ × Way)
target_seen (Some (Some t)) = Some (t.region, way_of t.way)
target_seen _ = None

-- where the instances of an old region go
abbrev pub target_of : Program → Program → ℕ → Option (ℕ × Way)
target_of old new r = do
  n ← new_region old new r
  sh ← region_shape old r
  z ← region_shape new n
  Some (n, way old new sh z)

-- the table of a pair of programs
pub record IsTable (old new : Program) (aimed : ℕ → StType) (ts : List (Option Target)) (classes : ℕ) (bits : List Bool) : Type 0 where
  pub targets : (r : ℕ) → target_seen (slice_get ts r) ≡ target_of old new r
  pub fits : (aim class : ℕ) → may_go bits classes aim class ≡ conforms new class (aimed aim)

pub record TableLaws : Type 0 where
  pub relocates : (old new : Program) (aim : StType → ℕ) (aimed : ℕ → StType) (ts : List (Option Target)) (classes : ℕ) (bits : List Bool) → NamesDiffer old → HasAddresses old → HasAddresses new → ((t : StType) → IsAim t → aimed (aim t) ≡ t) → IsTable old new aimed ts classes bits
      → Relocates old new aim (address_moved ts classes bits)
