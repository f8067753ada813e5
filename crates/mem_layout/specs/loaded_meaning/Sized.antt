-- What a program lays out is small and few: sizes, counts, and programs of tasks.
use Rattle.std.specs.Prelude.{◌≡◌, ◌≤◌, ◌<◌, ℕ, ◌+◌, ◌*◌, max, length, Some}
use Rattle.st_values.specs.Program.{Program}
use Rattle.st_values.specs.Shape.{Shape, Elementary, Enumeration, Reference, Interface, Array, Structure, Instance, Fields, no_fields, field_then, region_shape}
use Rattle.st_meaning.specs.Enter.{programs_of}
use Rattle.st_meaning.specs.st_frame.Footprint.{Has}
use Rattle.mem_layout.specs.store_bytes.PlaceLaws.{AreSmall}
use Rattle.mem_layout.specs.Layout.{RegionsHaveShapes}

-- counted values: numbers, references, and each instance as one more; a structure is its fields, and one value where it has none
abbrev mutual
  pub values_of : Shape → ℕ
  values_of (Elementary e) = 1
  values_of (Enumeration name values) = 1
  values_of (Reference c name) = 1
  values_of (Interface k name) = 1
  values_of (Array low n sh) = n * values_of sh
  values_of (Structure name fs) = max 1 (all_values_of fs)
  values_of (Instance c name fs) = 1 + all_values_of fs

  pub all_values_of : Fields → ℕ
  all_values_of no_fields = 0
  all_values_of (field_then v sh fs) = values_of sh + all_values_of fs

-- enumerations and classes are so few that their numbers have 32 bits
abbrev mutual
  pub IsCounted : Shape → Type 0
  IsCounted (Enumeration name values) = length values ≤ 4_294_967_296
  IsCounted (Array low n sh) = IsCounted sh
  IsCounted (Structure name fs) = AreCounted fs
  IsCounted (Instance c name fs) = (c < 4_294_967_296) × AreCounted fs
  IsCounted _ = Unit {0}

  pub AreCounted : Fields → Type 0
  AreCounted no_fields = Unit {0}
  AreCounted (field_then v sh fs) = IsCounted sh × AreCounted fs

-- no array has more elements than a region has values
abbrev mutual
  pub HasFewElements : Shape → Type 0
  HasFewElements (Array low n sh) = (n ≤ 131_072) × HasFewElements sh
  HasFewElements (Structure name fs) = HaveFewElements fs
  HasFewElements (Instance c name fs) = HaveFewElements fs
  HasFewElements _ = Unit {0}

  pub HaveFewElements : Fields → Type 0
  HaveFewElements no_fields = Unit {0}
  HaveFewElements (field_then v sh fs) = HasFewElements sh × HaveFewElements fs

-- what an accepted program keeps beside its promise
pub record IsSized (p : Program) : Type 0 where
  -- each region has a shape, of which all parts are small
  pub shapes : RegionsHaveShapes p
  pub small : AreSmall (region_shape p)
  pub few : (r : ℕ) (sh : Shape) → region_shape p r ≡ Some sh → r < 1_024
  pub values : (r : ℕ) (sh : Shape) → region_shape p r ≡ Some sh → values_of sh ≤ 131_072
  pub elements : (r : ℕ) (sh : Shape) → region_shape p r ≡ Some sh → HasFewElements sh
  pub counted : (r : ℕ) (sh : Shape) → region_shape p r ≡ Some sh → IsCounted sh
  -- each task has a program
  pub busy : (t : ℕ) → t < length p.tasks → (r : ℕ) × Has (programs_of p t) r
