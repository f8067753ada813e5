-- The numbers of a value, each with its path: those of elementary types and of enumerations.
use Rattle.std.specs.Prelude.{ℕ, suc, ℤ, pos, ◌+ℤ◌, List, [], ◌∷◌, ◌++◌, Option, Some, None, slice_get}
use Rattle.st_tree.specs.declared.path.Step.TheVariants as step
use Rattle.st_values.specs.Program.{Region, Program}
use Rattle.st_values.specs.Value.{Path, Step, Value, number, reference, array, structure, instance, Values, no_values, value_then, Members, no_members, member_then}
use Rattle.st_values.specs.Initial.{initial_value}

abbrev pub further : Path → Step → Path
further q s = record q { steps = q.steps ++ s ∷ [] }

-- in order of declaration, elements by rising index
abbrev mutual
  pub numbers_in : Path → Value → List (Path × ℤ)
  numbers_in q (number z) = (q, z) ∷ []
  numbers_in q (reference o) = []
  numbers_in q (array low vs) = elements_in q low vs
  numbers_in q (structure name ms) = members_in q 0 ms
  numbers_in q (instance name ms) = members_in q 0 ms

  -- from this index on
  pub elements_in : Path → ℤ → Values → List (Path × ℤ)
  elements_in q i no_values = []
  elements_in q i (value_then v vs) = numbers_in (further q (step.Element i)) v ++ elements_in q (i +ℤ pos 1) vs

  -- from this field on
  pub members_in : Path → ℕ → Members → List (Path × ℤ)
  members_in q k no_members = []
  members_in q k (member_then n v ms) = numbers_in (further q (step.Field k)) v ++ members_in q (suc k) ms

abbrev pub numbers_of_region : Program → ℕ → Option Region → List (Path × ℤ)
numbers_of_region p r None = []
numbers_of_region p r (Some x) = numbers_in (record { region = r; steps = [] }) (initial_value p x.variable)

-- the numbers with which a region begins
abbrev pub initial_numbers : Program → ℕ → List (Path × ℤ)
initial_numbers p r = numbers_of_region p r (slice_get p.regions r)
