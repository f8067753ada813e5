-- Lists of values for variables, and tables of the places of their names.
use Rattle.std.specs.Prelude.{◌≡◌, ℕ, nat_eq, List, Option, Some, None, option_map, option_and_then, slice_get}
use Rattle.std.specs.Cmp.Lexicographic.{pointwise}
use Rattle.std.specs.HashMap.{HashMap, get}
use Rattle.std.specs.declared.hash.FoldHasher.{FoldHasher}
use Rattle.std.specs.declared.hash.BuildHasherDefault.{BuildHasherDefault}
use Rattle.st_tree.specs.declared.initial.FieldInit.{FieldInit}
use Rattle.st_tree.specs.declared.program.Note.{Note}
use Rattle.st_tree.specs.Initial.{Initial, initial_of, fields_of}
use Rattle.st_values.specs.Initial.{given_for}

-- a table of places by name
abbrev pub Table : Type 0
Table = HashMap (List ℕ) ℕ (BuildHasherDefault FoldHasher)

abbrev pub found_in : Table → List ℕ → Option ℕ
found_in table name = get (pointwise nat_eq) table name

-- the value at a place of a list
abbrev pub given_at : List (FieldInit Note) → Option ℕ → Option (Initial Note)
given_at fields place = option_map (λ (f : FieldInit Note). initial_of f.value) (option_and_then (slice_get fields) place)

-- the table finds what is given to each name
pub record Finds (table : Table) (fields : List (FieldInit Note)) : Type 0 where
  pub by : (name : List ℕ) → given_at fields (found_in table name) ≡ given_for name (fields_of fields)

-- a table of the list, where there is one
abbrev pub IsIndex : Option Table → List (FieldInit Note) → Type 0
IsIndex None fields = Unit {0}
IsIndex (Some table) fields = Finds table fields
