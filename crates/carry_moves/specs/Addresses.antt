-- Addresses of the old program as those of the new one.
use Rattle.std.specs.Prelude.{◌≡◌, ◌⊎◌, ℕ, ℤ, pos, Option}
use Rattle.st_types.specs.declared.elem.Elem.TheVariants.{Ulint}
use Rattle.st_types.specs.Range.{Fits}
use Rattle.st_types.specs.declared.st_type.StType.{StType}
use Rattle.st_types.specs.declared.st_type.StType.TheVariants as type
use Rattle.st_values.specs.Program.{Program}
use Rattle.st_values.specs.Value.{Path}
use Rattle.st_values.specs.Shape.{region_shape}
use Rattle.mem_layout.specs.store_bytes.Spells.{Refers}
use Rattle.st_change.specs.Carry as change

-- an address, as it is kept
pub record IsAddressOf (p : Program) (o : Option Path) (z : ℤ) : Type 0 where
  pub word : ℕ
  pub is : z ≡ pos word
  pub refers : Refers (region_shape p) o word
  pub fits : Fits Ulint (pos word)

-- the types of variables that hold addresses
abbrev pub IsAim : StType → Type 0
IsAim t = ((c : ℕ) × (t ≡ type.Reference c)) ⊎ ((i : ℕ) × (t ≡ type.Interface i))

-- Each address becomes the one of where its path leads after the change, where an instance that conforms is there, else NULL.
pub record Relocates (old new : Program) (aim : StType → ℕ) (relocated : ℕ → ℤ → ℤ) : Type 0 where
  pub by : (t : StType) → IsAim t → (o : Option Path) (z : ℤ) → IsAddressOf old o z → IsAddressOf new (change.relocated old new t o) (relocated (aim t) z)
