-- Lists of numbers, one for each name.
use Rattle.std.specs.Prelude.{◌≡◌, ℕ, Bool, false, List, [], ◌∷◌, ◌++◌, Option, Some, None, length, slice_index_or, if◌then◌else◌}
use Rattle.st_rules.specs.Named.{first_place}
use Rattle.st_unit_rules.specs.declared_names.Declarations.{Region, of_global, of_instance}
use Rattle.st_unit_rules.specs.ConfigurationRules.{runs_in}

abbrev pub list_at : Option ℕ → List (List ℕ) → List ℕ
list_at None lists = []
list_at (Some k) lists = slice_index_or lists k []

-- the list in the place of the name
abbrev pub numbers_in : List (List ℕ) → List (List ℕ) → List ℕ → List ℕ
numbers_in names lists name = list_at (first_place name names) lists

-- the number is added to the lists of the names that pass
pub record Adds (names lists names' lists' : List (List ℕ)) (test : List ℕ → Bool) (number : ℕ) : Type 0 where
  pub long : length lists' ≡ length names'
  pub is : (name : List ℕ) → numbers_in names' lists' name ≡ numbers_in names lists name ++ (if test name then number ∷ [] else [])

-- the region is an instance that runs with the task
abbrev pub is_run : List ℕ → Region → Bool
is_run task (of_global w) = false
is_run task (of_instance x) = runs_in task x
