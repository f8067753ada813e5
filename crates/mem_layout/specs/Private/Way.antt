-- Steps towards what begins at an offset.
use Rattle.std.specs.Prelude.{◌≡◌, ℕ, ◌+◌, ◌<◌, ◌≤◌, ℤ, pos, ◌+ℤ◌, ◌≤ℤ◌, List, ◌++◌, Bool, true, false, Option, Some, None, ◌⊎◌, slice_get}
use Rattle.st_types.specs.declared.st_type.StType.{StType}
use Rattle.st_tree.specs.declared.path.Step.TheVariants as step
use Rattle.st_values.specs.Program.{Program}
use Rattle.st_values.specs.Shape.{Shape, Array, Structure, shape_within}
use Rattle.st_values.specs.Value.{Step}
use Rattle.mem_layout.specs.store_bytes.Place.{Place, size, part_place, inner_place}
use Rattle.mem_layout.specs.store_bytes.PlaceLaws.{IsOwn}
use Rattle.mem_layout.specs.Layout.{IsSmall}
use Rattle.mem_layout.specs.declared.sizes.Field.{Field}
use Rattle.mem_layout.specs.declared.ways.Inward.{Inward}

-- the test for what is neither an array nor a structure
abbrev pub is_own : Shape → Bool
is_own (Array low n sh) = false
is_own (Structure name fs) = false
is_own _ = true

-- the part to which the step leads ends before the offset, or begins behind it
abbrev pub Misses : Shape → ℕ → Step → Type 0
Misses sh left s = (z : Place) → part_place sh s ≡ Some z → (z.offset + size z.shape ≤ left) ⊎ (left < z.offset)

-- the step to the one part in which something may begin at the offset, and the type of that part
pub record Enters (p : Program) (n : ℕ) (sh : Shape) (left : ℕ) (r : Inward) : Type 0 where
  pub shape : Shape
  pub place : part_place sh r.step ≡ Some (record { offset = r.offset; shape = shape })
  pub before : r.offset ≤ left
  pub unfolds : shape_within p n r.kind.now ≡ Some shape
  pub small : IsSmall shape
  pub others : (s : Step) → (s ≡ r.step) ⊎ Misses sh left s

abbrev pub EntersIf : Program → ℕ → Shape → ℕ → Option Inward → Type 0
EntersIf p n sh left None = (s : Step) → Misses sh left s
EntersIf p n sh left (Some r) = Enters p n sh left r

-- something that is neither an array nor a structure begins there
pub record Begins (sh : Shape) (offset : ℕ) (ss : List Step) : Type 0 where
  pub place : Place
  pub leads : inner_place sh ss ≡ Some place
  pub own : IsOwn place.shape
  pub at : place.offset ≡ offset

-- the way to it, or none
abbrev pub IsWay : Shape → ℕ → Option (List Step) → Type 0
IsWay sh offset None = (ss : List Step) → Begins sh offset ss → ⊥
IsWay sh offset (Some ss) = Begins sh offset ss

-- what begins there begins behind these steps, and how far from where they lead
pub record Towards (p : Program) (n : ℕ) (whole : Shape) (offset : ℕ) (ss : List Step) (at : StType) (left : ℕ) : Type 0 where
  pub shape : Shape
  pub unfolds : shape_within p n at ≡ Some shape
  pub small : IsSmall shape
  pub found : (ts : List Step) → Begins shape left ts → Begins whole offset (ss ++ ts)
  pub only : (ts : List Step) → Begins whole offset ts → (us : List Step) × Begins shape left us

-- rows by rising offsets
pub record AreRising (rows : List Field) : Type 0 where
  pub by : (j k : ℕ) (a b : Field) → j ≤ k → slice_get rows j ≡ Some a → slice_get rows k ≡ Some b → a.offset ≤ b.offset

-- so many of the first begin at the offset or before it, and all others behind it
pub record AreBefore (rows : List Field) (left n : ℕ) : Type 0 where
  pub few : (k : ℕ) (a : Field) → k < n → slice_get rows k ≡ Some a → a.offset ≤ left
  pub others : (k : ℕ) (a : Field) → n ≤ k → slice_get rows k ≡ Some a → left < a.offset

-- the step to the k-th element
pub record IsElementStep (low high : ℤ) (k : ℕ) (s : Step) : Type 0 where
  pub index : ℤ
  pub is : s ≡ step.Element index
  pub at : index ≡ low +ℤ pos k
  pub within : index ≤ℤ high
