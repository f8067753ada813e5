-- How large is what lies at a place.
use Rattle.std.specs.Prelude.{◌≡◌, ℕ, List, Some}
use Rattle.st_types.specs.declared.st_type.StType.{StType}
use Rattle.st_values.specs.Program.{Program}
use Rattle.st_values.specs.ShapeLaws.{Unfolds}
use Rattle.st_meaning.specs.State.{Spot}
use Rattle.mem_layout.specs.store_bytes.Place.{size}
use Rattle.code_rules.specs.Places.{bytes_of}
use Rattle.shown_memory.specs.Shown.{Layout, Located, located}

pub record SizeLaws : Type 0 where
  -- a value of a type, with the size that the code takes for it
  pub sizes : (p : Program) (base : ℕ) (ls : List Layout) (spot : Spot) (l : Located) → located p base ls spot ≡ Some l → (t : StType) × Unfolds p t l.shape × (bytes_of p t ≡ size l.shape)
