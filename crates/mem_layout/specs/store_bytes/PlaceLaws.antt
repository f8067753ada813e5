-- The laws of places.
use Rattle.std.specs.Prelude.{◌≡◌, ℕ, ◌+◌, ◌≤◌, List, Option, Some}
use Rattle.mem_image.specs.Laws.{AreApart}
use Rattle.st_values.specs.Value.{Path, Step}
use Rattle.st_values.specs.ValueLaws.{Apart}
use Rattle.st_values.specs.Shape.{Shape, Array, Structure, Fields, no_fields, field_then, shape_at}
use Rattle.mem_layout.specs.store_bytes.Place.{size, Place, field_place, inner_place, place_of, kept}

-- neither an array nor a structure
abbrev pub IsOwn : Shape → Type 0
IsOwn (Array low n sh) = ⊥
IsOwn (Structure name fs) = ⊥
IsOwn _ = Unit {0}

abbrev pub joined : Fields → Fields → Fields
joined no_fields gs = gs
joined (field_then v sh fs) gs = field_then v sh (joined fs gs)

-- every region has at most 2 ^ 32 bytes
abbrev pub AreSmall : (ℕ → Option Shape) → Type 0
AreSmall regions = (r : ℕ) (sh : Shape) → regions r ≡ Some sh → size sh ≤ 4294967296

pub record PlaceLaws : Type 0 where
  -- there is a place exactly where steps lead to a part, and its shape is that of the part
  pub leads : (sh : Shape) (ss : List Step) (x : Place) → inner_place sh ss ≡ Some x → shape_at sh ss ≡ Some x.shape
  pub has : (sh part : Shape) (ss : List Step) → shape_at sh ss ≡ Some part → (n : ℕ) × (inner_place sh ss ≡ Some (record { offset = n; shape = part }))
  -- a part lies within the whole
  pub within : (sh : Shape) (ss : List Step) (x : Place) → inner_place sh ss ≡ Some x → x.offset + size x.shape ≤ size sh
  -- parts that are not within each other share no byte
  pub apart : (sh : Shape) (ss ts : List Step) (x y : Place) → Apart ss ts → inner_place sh ss ≡ Some x → inner_place sh ts ≡ Some y → AreApart x.offset (size x.shape) y.offset (size y.shape)
  -- one way leads to the instance, or to the value that is neither an array nor a structure, that begins at a place
  pub once : (sh : Shape) (ss ts : List Step) (x y : Place) → inner_place sh ss ≡ Some x → inner_place sh ts ≡ Some y → IsOwn x.shape → IsOwn y.shape → x.offset ≡ y.offset → ss ≡ ts
  -- a field of a base lies in a derived class where it lies in the base
  pub base : (offset : ℕ) (base own : Fields) (k : ℕ) (x : Place) → field_place offset base k ≡ Some x → field_place offset (joined base own) k ≡ Some x

-- two instances, or values that are neither arrays nor structures, that are kept as one number are one
abbrev pub KeptOnce : Type 0
KeptOnce = (regions : ℕ → Option Shape) → AreSmall regions → (q r : Path) (x y : Place) → place_of regions q ≡ Some x → place_of regions r ≡ Some y → IsOwn x.shape → IsOwn y.shape → kept q.region x.offset ≡ kept r.region y.offset → q ≡ r
