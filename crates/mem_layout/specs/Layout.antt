-- What a layout asks of a program, and what it tells.
use Rattle.std.specs.Prelude.{◌≡◌, ℕ, ◌*◌, ◌<◌, List, [], ◌∷◌, Option, Some, None}
use Rattle.std.specs.Borrow.{Bor}
use Rattle.st_types.specs.declared.st_type.StType.{StType}
use Rattle.st_tree.specs.declared.path.Path.{Path}
use Rattle.mem_image.specs.declared.at.At.{At}
use Rattle.st_values.specs.Program.{Region, Program}
use Rattle.st_values.specs.ShapeLaws.{Unfolds}
use Rattle.st_values.specs.Shape.{Shape, Array, Structure, Instance, Fields, no_fields, field_then, shape_of, region_shape}
use Rattle.mem_layout.specs.store_bytes.Place.{size, Place, place_of}
use Rattle.mem_layout.specs.store_bytes.PlaceLaws.{IsOwn}

-- each part has fewer than 2 ^ 32 bytes
abbrev mutual
  pub IsSmall : Shape → Type 0
  IsSmall (Array low n sh) = (n * size sh < 4294967296) × IsSmall sh
  IsSmall (Structure name fs) = (size (Structure name fs) < 4294967296) × EachIsSmall fs
  IsSmall (Instance c name fs) = (size (Instance c name fs) < 4294967296) × EachIsSmall fs
  IsSmall _ = Unit {0}

  pub EachIsSmall : Fields → Type 0
  EachIsSmall no_fields = Unit {0}
  EachIsSmall (field_then v sh fs) = IsSmall sh × EachIsSmall fs

-- the type unfolds, within the bound on containment, to a shape that is small
pub record HasShape (p : Program) (t : StType) : Type 0 where
  pub shape : Shape
  pub unfolds : shape_of p t ≡ Some shape
  pub small : IsSmall shape

-- and so does that of each region
abbrev pub AllHaveShapes : Program → List Region → Type 0
AllHaveShapes p [] = Unit {0}
AllHaveShapes p (x ∷ xs) = HasShape p x.variable.kind × AllHaveShapes p xs

abbrev pub RegionsHaveShapes : Program → Type 0
RegionsHaveShapes p = AllHaveShapes p p.regions

-- the place in an image is that of the path in its region
pub record IsPlace (p : Program) (q : Path) (at : At) : Type 0 where
  pub place : Place
  pub is : place_of (region_shape p) q ≡ Some place
  pub region : at.region ≡ q.region
  pub offset : at.offset ≡ place.offset

-- the path leads to an instance, or to a value that is neither an array nor a structure, and that begins there
pub record Begins (p : Program) (at : At) (q : Path) : Type 0 where
  pub is : IsPlace p q at
  pub own : IsOwn is.place.shape

-- so many bytes has a region
pub record IsSizeOf (p : Program) (r : ℕ) (n : ℕ) : Type 0 where
  pub shape : Shape
  pub is : region_shape p r ≡ Some shape
  pub size-is : n ≡ size shape

-- an answer without the loan
abbrev pub told : Option (ℕ × Bor StType) → Option (ℕ × StType)
told None = None
told (Some r) = Some (r.0, r.1.now)

-- a part of a type: how many bytes from the beginning it lies, and its type
abbrev pub IsPart : Program → Option (ℕ × StType) → Option Place → Type 0
IsPart p None None = Unit {0}
IsPart p (Some r) (Some x) = (r.0 ≡ x.offset) × Unfolds p r.1 x.shape
IsPart p _ _ = ⊥
