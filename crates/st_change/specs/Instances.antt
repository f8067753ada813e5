-- The instances that a shape holds, with the numbers of their classes: members before their owner, or after it.
use Rattle.std.specs.Prelude.{ℕ, zero, suc, ℤ, pos, ◌+ℤ◌, Bool, if◌then◌else◌, List, [], ◌∷◌, ◌++◌, Option, Some, None}
use Rattle.st_tree.specs.declared.path.Step.TheVariants as step
use Rattle.st_values.specs.Program.{Region, Program}
use Rattle.st_values.specs.Value.{Path, Step}
use Rattle.st_values.specs.Shape.{Shape, Elementary, Enumeration, Reference, Interface, Array, Structure, Instance, Fields, no_fields, field_then, region_shape}

-- the path of an instance, and the number and name of its class
pub record Member : Type 0 where
  pub path : Path
  pub class : ℕ
  pub name : List ℕ

abbrev pub further : Path → Step → Path
further q s = record q { steps = q.steps ++ s ∷ [] }

-- so many elements from this index on, by rising index
abbrev pub along_elements : (Path → List Member) → Path → ℤ → ℕ → List Member
along_elements walk q i zero = []
along_elements walk q i (suc n) = walk (further q (step.Element i)) ++ along_elements walk q (i +ℤ pos 1) n

-- Members before their owner, the variables of bases first, in order of declaration.
abbrev mutual
  pub members_first : Shape → Path → List Member
  members_first (Elementary e) q = []
  members_first (Enumeration name values) q = []
  members_first (Reference c name) q = []
  members_first (Interface i name) q = []
  members_first (Array low n sh) q = along_elements (members_first sh) q low n
  members_first (Structure name fs) q = fields_first fs q 0
  members_first (Instance c name fs) q = fields_first fs q 0 ++ record { path = q; class = c; name = name } ∷ []

  -- from this field on
  pub fields_first : Fields → Path → ℕ → List Member
  fields_first no_fields q k = []
  fields_first (field_then v sh fs) q k = members_first sh (further q (step.Field k)) ++ fields_first fs q (suc k)

-- Each owner before its members.
abbrev mutual
  pub owner_first : Shape → Path → List Member
  owner_first (Elementary e) q = []
  owner_first (Enumeration name values) q = []
  owner_first (Reference c name) q = []
  owner_first (Interface i name) q = []
  owner_first (Array low n sh) q = along_elements (owner_first sh) q low n
  owner_first (Structure name fs) q = owner_fields fs q 0
  owner_first (Instance c name fs) q = record { path = q; class = c; name = name } ∷ owner_fields fs q 0

  pub owner_fields : Fields → Path → ℕ → List Member
  owner_fields no_fields q k = []
  owner_fields (field_then v sh fs) q k = owner_first sh (further q (step.Field k)) ++ owner_fields fs q (suc k)

abbrev pub walk_region : (Shape → Path → List Member) → Option Shape → ℕ → List Member
walk_region walk None r = []
walk_region walk (Some sh) r = walk sh (record { region = r; steps = [] })

-- the regions from this number on that the test lets through, in order
abbrev pub of_regions : Program → (ℕ → Bool) → (Shape → Path → List Member) → ℕ → List Region → List Member
of_regions p test walk r [] = []
of_regions p test walk r (x ∷ xs) = (if test r then walk_region walk (region_shape p r) r else []) ++ of_regions p test walk (suc r) xs
