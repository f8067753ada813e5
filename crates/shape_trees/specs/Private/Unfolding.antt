-- Types that are unfolded.
use Rattle.std.specs.Prelude.{◌≡◌, Bool, true, List, Option, Some, None, option_map}
use Rattle.st_values.specs.Program.{Program}
use Rattle.st_values.specs.Shape.{Shape, Fields}
use Rattle.shape_trees.specs.declared.shape.Shape.{Shape as CodeShape}
use Rattle.shape_trees.specs.declared.shape.Field.{Field as CodeField}
use Rattle.shape_trees.specs.Shape.{shape_of, fields_of}
use Rattle.shape_trees.specs.Numbers.{is_numbered_at, are_numbered}

-- what is found is the shape, and the numbers in it are right
pub record IsFound (p : Program) (o : Option Shape) (found : Option CodeShape) : Type 0 where
  pub is : option_map shape_of found ≡ o
  pub numbered : is_numbered_at p found ≡ true

abbrev pub are_numbered_at : Program → Option (List CodeField) → Bool
are_numbered_at p None = true
are_numbered_at p (Some fs) = are_numbered p fs

-- the same of fields
pub record AreFound (p : Program) (o : Option Fields) (found : Option (List CodeField)) : Type 0 where
  pub is : option_map fields_of found ≡ o
  pub numbered : are_numbered_at p found ≡ true
