-- The instances that types hold, as paths with the numbers of their classes.
use Rattle.std.specs.Prelude.{◌≡◌, ℕ, ℤ, true, List, ◌++◌, map, Some}
use Rattle.st_types.specs.declared.st_type.StType.{StType}
use Rattle.st_tree.specs.declared.path.Path.{Path}
use Rattle.st_values.specs.Program.{Variable, Region, Program}
use Rattle.st_values.specs.Shape.{Shape, Fields, fields_by, shape_within}
use Rattle.st_change.specs.Instances.{Member, along_elements, members_first, fields_first, of_regions}
use Rattle.reference_start.specs.declared.instances.Instance.{Instance}

abbrev pub bare : Member → Path × ℕ
bare m = (m.path, m.class)

abbrev pub instance_of : Instance → Path × ℕ
instance_of x = (x.path, x.class)

abbrev pub all_of : List Instance → List (Path × ℕ)
all_of xs = map instance_of xs

abbrev pub in_type : Shape → Path → List (Path × ℕ)
in_type sh q = map bare (members_first sh q)

-- from this field on
abbrev pub in_fields : Fields → Path → ℕ → List (Path × ℕ)
in_fields fs q k = map bare (fields_first fs q k)

-- so many elements from this index on
abbrev pub in_elements : Shape → Path → ℤ → ℕ → List (Path × ℕ)
in_elements sh q i n = map bare (along_elements (members_first sh) q i n)

-- from this region on
abbrev pub in_regions : Program → ℕ → List Region → List (Path × ℕ)
in_regions p r xs = map bare (of_regions p (λ r. true) members_first r xs)

-- the instances in a place are added, where its type unfolds to a depth
pub record AddsType (p : Program) (n : ℕ) (t : StType) (q : Path) (before after : List Instance) : Type 0 where
  pub by : (sh : Shape) → shape_within p n t ≡ Some sh → all_of after ≡ all_of before ++ in_type sh q

pub record AddsFields (p : Program) (n : ℕ) (vs : List Variable) (q : Path) (before after : List Instance) : Type 0 where
  pub by : (fs : Fields) → fields_by (shape_within p n) vs ≡ Some fs → all_of after ≡ all_of before ++ in_fields fs q 0

pub record AddsElements (p : Program) (n : ℕ) (t : StType) (q : Path) (low : ℤ) (count : ℕ) (before after : List Instance) : Type 0 where
  pub by : (sh : Shape) → shape_within p n t ≡ Some sh → all_of after ≡ all_of before ++ in_elements sh q low count

-- they are those of all regions, members before their owner
pub record AreInstances (p : Program) (xs : List Instance) : Type 0 where
  pub all : all_of xs ≡ in_regions p 0 p.regions
