-- Moves of bytes carry values.
use Rattle.std.specs.Prelude.{◌≡◌, ℕ, ◌+◌, ◌≤◌, ℤ, Bool, List, Some, length}
use Rattle.st_types.specs.declared.st_type.StType.{StType}
use Rattle.st_values.specs.Program.{Program}
use Rattle.st_values.specs.Value.{Value}
use Rattle.st_values.specs.Shape.{Shape, region_shape}
use Rattle.mem_layout.specs.store_bytes.Place.{size}
use Rattle.mem_layout.specs.store_bytes.Spells.{Spells}
use Rattle.mem_layout.specs.store_bytes.StoreLaws.{Keeps}
use Rattle.st_change.specs.Carry.{carry}
use Rattle.image_moves.specs.Moves.{moved, AreWithin}
use Rattle.carry_moves.specs.CarryMoves.{moves_of}
use Rattle.carry_moves.specs.Addresses.{Relocates}

-- a new image spells a value where another one was spelled, and is as it was elsewhere
pub record Spelled (p : Program) (sh : Shape) (v : Value) (image image' : List ℕ) (j : ℕ) : Type 0 where
  pub long : length image' ≡ length image
  pub keeps : Keeps image image' j (size sh)
  pub spells : Spells (region_shape p) sh v image' j

pub record CarryMoveLaws : Type 0 where
  -- where old bytes spell an old value and new bytes a new one, the moves make them spell what is carried
  pub carries : (old new : Program) (aim : StType → ℕ) (relocated : ℕ → ℤ → ℤ) (keeping : Bool) → Relocates old new aim relocated
      → (sh x : Shape) (v held : Value) (source image : List ℕ) (i j : ℕ) → Spells (region_shape old) x v source i → Spells (region_shape new) sh held image j → i + size x ≤ length source → j + size sh ≤ length image
      → Spelled new sh (carry old new keeping sh (Some (x, v)) held) image (moved relocated source (moves_of old new aim keeping sh x 0 0) i j image) j
  -- they read and write within the values
  pub within : (old new : Program) (aim : StType → ℕ) (keeping : Bool) (sh x : Shape) → AreWithin (moves_of old new aim keeping sh x 0 0) (size x) (size sh)
