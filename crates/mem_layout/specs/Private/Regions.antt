-- A layout's tables, and when they are right.
use Rattle.std.specs.Prelude.{◌≡◌, List, [], ◌∷◌}
use Rattle.st_values.specs.Program.{Region, Program}
use Rattle.mem_layout.specs.store_bytes.Place.{size}
use Rattle.mem_layout.specs.Layout.{HasShape, RegionsHaveShapes}
use Rattle.mem_layout.specs.declared.sizes.Tables.{Tables}
use Rattle.mem_layout.specs.declared.layout.Region.{Region as Row}
use Rattle.mem_layout.specs.Private.Table.{AreTables, Reach}

pub record IsRegion (p : Program) (x : Region) (y : Row) : Type 0 where
  pub kind-is : y.kind ≡ x.variable.kind
  pub has : HasShape p y.kind
  pub size-is : y.size ≡ size has.shape

-- the rows are those of the regions
abbrev pub AreRegions : Program → List Region → List Row → Type 0
AreRegions p [] [] = Unit {0}
AreRegions p (x ∷ xs) (y ∷ ys) = IsRegion p x y × AreRegions p xs ys
AreRegions p _ _ = ⊥

-- the tables and the rows are right
pub record HasRows (p : Program) (t : Tables) (regions : List Row) : Type 0 where
  pub tables : AreTables p t
  pub reach : Reach p 65 t
  pub regions-are : AreRegions p p.regions regions

-- the tables are right, and the rows are where the regions have shapes
pub record IsLayout (p : Program) (t : Tables) (regions : List Row) : Type 0 where
  pub tables : AreTables p t
  pub reach : Reach p 65 t
  pub regions-are : RegionsHaveShapes p → AreRegions p p.regions regions
