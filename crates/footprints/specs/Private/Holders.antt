-- The regions that hold instances of each class.
use Rattle.std.specs.Prelude.{◌≡◌, ◌<◌, ◌⊎◌, ℕ, List, [], Option, Some, None, IsTrue, slice_get}
use Rattle.st_types.specs.declared.st_type.StType.{StType}
use Rattle.st_values.specs.Program.{Program, conforms}
use Rattle.st_meaning.specs.st_frame.Footprint.{Has}
use Rattle.region_instances.specs.Instances.{HoldsInstance, RegionsUnfold}

-- the regions below this number that hold an instance of just this class
pub record AreHolders (p : Program) (class below : ℕ) (list : List ℕ) : Type 0 where
  pub sound : (r : ℕ) → Has list r → HoldsInstance p r class
  pub complete : (r : ℕ) → r < below → HoldsInstance p r class → Has list r

abbrev pub or_none : Option (List ℕ) → List ℕ
or_none None = []
or_none (Some rs) = rs

abbrev pub holders_at : List (List ℕ) → ℕ → List ℕ
holders_at lists class = or_none (slice_get lists class)

-- each class has the list of the regions that hold its instances
pub record AreAllHolders (p : Program) (regions : ℕ) (lists : List (List ℕ)) : Type 0 where
  pub each : (class : ℕ) (list : List ℕ) → slice_get lists class ≡ Some list → AreHolders p class regions list

-- in one of the lists of the classes that conform to a type
abbrev pub Held : Program → List (List ℕ) → StType → ℕ → Type 0
Held p lists kind r = (c : ℕ) × IsTrue (conforms p c kind) × Has (holders_at lists c) r

-- the region is put behind the list, where it holds an instance of the class
pub record IsNextHolder (p : Program) (region class : ℕ) (old new : List ℕ) : Type 0 where
  pub kept : (r : ℕ) → Has old r → Has new r
  pub only : RegionsUnfold p → (r : ℕ) → Has new r → Has old r ⊎ ((r ≡ region) × HoldsInstance p region class)
  pub added : RegionsUnfold p → HoldsInstance p region class → Has new region
