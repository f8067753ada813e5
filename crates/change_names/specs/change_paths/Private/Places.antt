-- Tables of the variables of lists.
use Rattle.std.specs.Prelude.{◌≡◌, ℕ, List}
use Rattle.st_rules.specs.Named.{first_place}
use Rattle.program_tables.specs.declared.st_initial.variables.Variable as held
use Rattle.program_tables.specs.st_initial.Members.{list_at}
use Rattle.program_tables.specs.st_initial.Variables.{variables_of}
use Rattle.change_names.specs.change_pairs.Places.{Table, found_in}
use Rattle.shape_trees.specs.Numbers.{names_of}
use Rattle.change_names.specs.change_paths.Numbers.{found_at}
use Rattle.std.specs.Prelude.{slice_get}

-- the table finds the first variable of each name
pub record FindsIn (table : Table) (vs : List held.Variable) : Type 0 where
  pub by : (name : List ℕ) → found_in table name ≡ first_place name (names_of (variables_of vs))

-- a table for each list
pub record FindIn (lists : List (List held.Variable)) (tables : List Table) : Type 0 where
  pub by : (k : ℕ) (name : List ℕ) → found_at (slice_get tables k) name ≡ first_place name (names_of (list_at lists k))
