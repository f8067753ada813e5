-- The tables of the variables that declarations give.
use Rattle.std.specs.Prelude.{◌≡◌, ◌≤◌, ℕ, List, [], length, Option, Some, None, slice_get}
use Rattle.st_values.specs.Program.{Variable, Program, class_variables}
use Rattle.program_tables.specs.declared.st_initial.members.Members as code
use Rattle.program_tables.specs.declared.st_initial.variables.Variable as held
use Rattle.program_tables.specs.st_initial.Variables.{variables_of, fields_at}

abbrev pub items_at : Option (List held.Variable) → List held.Variable
items_at None = []
items_at (Some vs) = vs

abbrev pub list_at : List (List held.Variable) → ℕ → List Variable
list_at xs n = variables_of (items_at (slice_get xs n))

-- the tables hold the variables of each structure, class and program
pub record Holds (p : Program) (m : code.Members) : Type 0 where
  pub structures : (n : ℕ) → list_at m.structures n ≡ fields_at p n
  pub all_structures : length p.types ≤ length m.structures
  pub classes : (c : ℕ) → list_at m.classes c ≡ class_variables p c
  pub all_classes : length p.classes ≤ length m.classes
