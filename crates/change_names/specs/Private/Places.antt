-- Where types and regions of a name stand.
use Rattle.std.specs.Prelude.{◌≡◌, ℕ, List, map}
use Rattle.st_rules.specs.Named.{first_place}
use Rattle.st_tree.specs.declared.declaration.TypeDecl.{TypeDecl}
use Rattle.st_tree.specs.declared.program.Note.{Note}
use Rattle.change_names.specs.change_pairs.Places.{Table, found_in}

-- the table finds the first place of each name
pub record ArePlacesOf (table : Table) (names : List (List ℕ)) : Type 0 where
  pub by : (name : List ℕ) → found_in table name ≡ first_place name names

abbrev pub names_of : List (TypeDecl Note) → List (List ℕ)
names_of types = map (λ t. t.name.text) types
