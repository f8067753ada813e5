-- Where the variables of a name stand.
use Rattle.std.specs.Prelude.{◌≡◌, ℕ, List, Option, Some, None, slice_get}
use Rattle.st_rules.specs.Named.{first_place}
use Rattle.st_values.specs.Program.{Program, class_variables}
use Rattle.program_tables.specs.st_initial.Variables.{fields_at}
use Rattle.change_names.specs.change_pairs.Places.{Table, found_in}
use Rattle.shape_trees.specs.Numbers.{names_of}
use Rattle.change_names.specs.declared.change_paths.numbers.FieldNumbers.{FieldNumbers}

abbrev pub found_at : Option Table → List ℕ → Option ℕ
found_at None name = None
found_at (Some table) name = found_in table name

-- the tables find the first variable of a name in each class, program and structure
pub record AreFieldNumbers (p : Program) (n : FieldNumbers) : Type 0 where
  pub classes : (c : ℕ) (name : List ℕ) → found_at (slice_get n.classes.items c) name ≡ first_place name (names_of (class_variables p c))
  pub structures : (s : ℕ) (name : List ℕ) → found_at (slice_get n.structures.items s) name ≡ first_place name (names_of (fields_at p s))
