-- The shapes of the regions of a program.
use Rattle.std.specs.Prelude.{◌≡◌, ℕ, true, List, Option, Some, None, option_map, slice_get}
use Rattle.st_values.specs.Program.{Program}
use Rattle.st_values.specs.Shape.{Shape, region_shape}
use Rattle.shape_trees.specs.declared.shape.Shape.{Shape as CodeShape}
use Rattle.shape_trees.specs.Shape.{shape_of}
use Rattle.shape_trees.specs.Numbers.{is_numbered_at}

abbrev pub joined : Option (Option CodeShape) → Option CodeShape
joined None = None
joined (Some o) = o

-- the shape of a number in a list
abbrev pub shape_in : List (Option CodeShape) → ℕ → Option Shape
shape_in all r = option_map shape_of (joined (slice_get all r))

-- they are the shapes of the program's regions, and the numbers in them are right
pub record AreShapes (p : Program) (all : List (Option CodeShape)) : Type 0 where
  pub by : (r : ℕ) → shape_in all r ≡ region_shape p r
  pub numbered : (r : ℕ) → is_numbered_at p (joined (slice_get all r)) ≡ true
