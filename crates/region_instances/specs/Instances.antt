-- Instances within regions, by the shapes of their types alone.
use Rattle.std.specs.Prelude.{◌≡◌, ℕ, List, Some, slice_get}
use Rattle.st_tree.specs.declared.path.Path.{Path}
use Rattle.st_values.specs.Program.{Region, Program}
use Rattle.st_values.specs.Shape.{Shape, Instance, Fields, region_shape, path_shape}

-- a path in the region leads to an instance of just this class
pub record HoldsInstance (p : Program) (r c : ℕ) : Type 0 where
  pub path : Path
  pub inside : path.region ≡ r
  pub name : List ℕ
  pub fields : Fields
  pub there : path_shape p path ≡ Some (Instance c name fields)

-- the type of each region unfolds
pub record RegionsUnfold (p : Program) : Type 0 where
  pub shapes : (r : ℕ) (x : Region) → slice_get p.regions r ≡ Some x → (sh : Shape) × (region_shape p r ≡ Some sh)
