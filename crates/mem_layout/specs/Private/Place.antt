-- Where steps lead by the tables.
use Rattle.std.specs.Prelude.{◌≡◌, ℕ, ◌+◌, ◌*◌, ◌<◌, ℤ, List, Option, Some, None}
use Rattle.st_types.specs.declared.st_type.StType.{StType}
use Rattle.st_values.specs.Program.{Program}
use Rattle.st_values.specs.Shape.{Shape, extent, shape_within}
use Rattle.st_values.specs.Value.{Step, place_of_index}
use Rattle.mem_layout.specs.store_bytes.Place.{Place, size, element_place, inner_place}
use Rattle.mem_layout.specs.Layout.{IsSmall}

abbrev pub offset_of : Option Place → Option ℕ
offset_of None = None
offset_of (Some x) = Some x.offset

-- the offset of the element of an index, where the array has fewer than 2 ^ 32 bytes
abbrev pub IsElementAt : ℤ → ℤ → ℤ → ℕ → Option ℕ → Type 0
IsElementAt low high index element result = (sh : Shape) → size sh ≡ element → extent low high * element < 4294967296 → result ≡ offset_of (element_place (extent low high) sh (place_of_index low index))

-- the answer is the place, and the type that lies there unfolds to its shape
abbrev pub LeadsAt : Program → ℕ → Option (ℕ × StType) → Option Place → Type 0
LeadsAt p n None None = Unit {0}
LeadsAt p n (Some r) (Some x) = (r.0 ≡ x.offset) × (shape_within p n r.1 ≡ Some x.shape) × IsSmall x.shape
LeadsAt p n _ _ = ⊥

abbrev pub moved_by : ℕ → Option ℕ → Option ℕ
moved_by n None = None
moved_by n (Some m) = Some (n + m)

-- with these steps left, at a type that lies so far
pub record Leading (p : Program) (n : ℕ) (whole : Shape) (ss left : List Step) (at : StType) (offset : ℕ) : Type 0 where
  pub shape : Shape
  pub unfolds : shape_within p n at ≡ Some shape
  pub small : IsSmall shape
  pub room : offset + size shape < 4294967296
  pub rest : offset_of (inner_place whole ss) ≡ moved_by offset (offset_of (inner_place shape left))
