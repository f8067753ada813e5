-- Regions that are filled one after the other.
use Rattle.std.specs.Prelude.{◌≡◌, ◌≤◌, ◌<◌, ℕ, List, Option, Some, None, length, slice_get}
use Rattle.st_tree.specs.declared.program.RegionDecl.{RegionDecl}
use Rattle.st_values.specs.Program.{Program}
use Rattle.st_values.specs.Initial.{init}
use Rattle.st_values.specs.Shape.{Shape, shape_of, region_shape}
use Rattle.st_values.specs.View.{initial_in}
use Rattle.mem_layout.specs.store_bytes.Image.{image_of}
use Rattle.mem_layout.specs.store_bytes.InitialLaws.{IsInRange}
use Rattle.mem_layout.specs.Layout.{HasShape}

-- the type of a region unfolds, and its numbers are of their kinds
pub record CanBegin (p : Program) (d : RegionDecl) : Type 0 where
  pub has : HasShape p d.kind
  pub range : IsInRange has.shape (initial_in d.initial)

-- the image with which a region begins
pub record Begun (p : Program) (d : RegionDecl) (image : List ℕ) : Type 0 where
  pub by : CanBegin p d → (sh : Shape) → shape_of p d.kind ≡ Some sh → image ≡ image_of (region_shape p) sh (init sh (initial_in d.initial))

-- the first k regions have theirs
pub record AreBegun (p : Program) (ds : List RegionDecl) (k : ℕ) (images : List (Option (List ℕ))) : Type 0 where
  pub long : length images ≡ length ds
  pub done : (r : ℕ) (d : RegionDecl) → r < k → slice_get ds r ≡ Some d → (image : List ℕ) × (slice_get images r ≡ Some (Some image)) × Begun p d image
  pub left : (r : ℕ) → k ≤ r → r < length ds → slice_get images r ≡ Some None
