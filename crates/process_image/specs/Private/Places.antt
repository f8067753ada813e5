-- Where a variable with an address stands.
use Rattle.std.specs.Prelude.{ℕ, List, [], ◌∷◌, Option, Some, None}
use Rattle.st_types.specs.declared.st_type.StType.{StType}
use Rattle.st_tree.specs.declared.path.Path.{Path}
use Rattle.st_tree.specs.declared.path.Step.TheVariants as step
use Rattle.st_meaning.specs.Operation.{elem_of}
use Rattle.st_meaning.specs.ProcessImage.{Located}

-- a region, or a variable of the instance that it is
abbrev pub place_in : ℕ → Option ℕ → Path
place_in r None = record { region = r; steps = [] }
place_in r (Some k) = record { region = r; steps = step.Field k ∷ [] }

abbrev pub located_at : Path → StType → Option (List ℕ) → List Located
located_at q t None = []
located_at q t (Some address) = record { path = q; elem = elem_of t; address = address } ∷ []
