-- Reading and writing bytes at places is reading and writing the store.
use Rattle.std.specs.Prelude.{◌≡◌, ℕ, ◌+◌, ◌≤◌, ℤ, pos, Bool, true, List, Option, Some, length, slice_get, slice_set, slice_range}
use Rattle.st_types.specs.declared.elem.Elem.{Elem}
use Rattle.st_types.specs.declared.elem.Elem.TheVariants.{Udint, Ulint}
use Rattle.st_types.specs.Elem.{bytes}
use Rattle.st_types.specs.Range.{Fits}
use Rattle.mem_image.specs.Image.{value_at as number_at, replaced, written}
use Rattle.mem_image.specs.Laws.{AreApart}
use Rattle.st_values.specs.Value.{Path, Value, number, reference, Store, at, put}
use Rattle.st_values.specs.ValueLaws.{ArePathsApart}
use Rattle.st_values.specs.Shape.{Shape, Elementary, Enumeration, Reference, Interface, Instance, Fields}
use Rattle.mem_layout.specs.store_bytes.Place.{size, Place, place_of}
use Rattle.mem_layout.specs.store_bytes.Spells.{Refers, Spells, Shows}
use Rattle.mem_layout.specs.store_bytes.Image.{image_of}
use Rattle.mem_layout.specs.store_bytes.PlaceLaws.{AreSmall}

-- all bytes but the n from i on are as they were
pub record Keeps (image image' : List ℕ) (i n : ℕ) : Type 0 where
  pub by : (j m : ℕ) → AreApart i n j m → slice_range image' j (j + m) ≡ slice_range image j (j + m)

-- the shapes whose values are numbers, and of which kind their bytes are
abbrev pub IsNumber : Shape → Elem → Type 0
IsNumber (Elementary e) f = e ≡ f
IsNumber (Enumeration name values) f = f ≡ Udint
IsNumber _ f = ⊥

-- the shapes whose values are references
abbrev pub IsAddress : Shape → Type 0
IsAddress (Reference c name) = Unit {0}
IsAddress (Interface k name) = Unit {0}
IsAddress _ = ⊥

module _ (regions : ℕ → Option Shape) (images : List (Option (List ℕ))) (store : Store) where
  -- what the store has at a path is spelled at the path's place
  pub record Stands (q : Path) (x : Place) : Type 0 where
    pub image : List ℕ
    pub value : Value
    pub there : slice_get images q.region ≡ Some (Some image)
    pub within : x.offset + size x.shape ≤ length image
    pub reads : at store q ≡ Some value
    pub spells : Spells regions x.shape value image x.offset

  -- with a new image of a region there is a store in which the new value is read, and every other path reads as before
  pub record Stored (is_held : ℕ → Bool) (q : Path) (image' : List ℕ) (new : Value) : Type 0 where
    pub store' : Store
    pub is : put store q new ≡ Some store'
    pub shows : Shows regions is_held (slice_set images q.region (Some image')) store'
    pub reads : at store' q ≡ Some new
    pub others : (r : Path) → ArePathsApart q r → at store' r ≡ at store r

module _ (regions : ℕ → Option Shape) (is_held : ℕ → Bool) (images : List (Option (List ℕ))) (store : Store) where
  pub record StoreLaws : Type 0 where
    pub stands : Shows regions is_held images store → (q : Path) (x : Place) → is_held q.region ≡ true → place_of regions q ≡ Some x → Stands regions images store q x
    -- bytes that change within a place alone and spell a new value there
    pub puts : Shows regions is_held images store → (q : Path) (x : Place) (image image' : List ℕ) (new : Value) → is_held q.region ≡ true → place_of regions q ≡ Some x → slice_get images q.region ≡ Some (Some image)
        → Keeps image image' x.offset (size x.shape) → length image' ≡ length image → Spells regions x.shape new image' x.offset → Stored regions images store is_held q image' new
    -- a number that is read
    pub loads : Shows regions is_held images store → (q : Path) (x : Place) (e : Elem) → is_held q.region ≡ true → place_of regions q ≡ Some x → IsNumber x.shape e
        → (image : List ℕ) × (slice_get images q.region ≡ Some (Some image)) × (x.offset + bytes e ≤ length image) × (at store q ≡ Some (number (number_at e image x.offset)))
    -- a number that is written
    pub stores : Shows regions is_held images store → (q : Path) (x : Place) (e : Elem) (z : ℤ) → is_held q.region ≡ true → place_of regions q ≡ Some x → IsNumber x.shape e → Fits e z
        → (image : List ℕ) × (slice_get images q.region ≡ Some (Some image)) × (x.offset + bytes e ≤ length image) × Stored regions images store is_held q (written e image x.offset z) (number z)
    -- a reference that is read
    pub loads_reference : Shows regions is_held images store → (q : Path) (x : Place) → is_held q.region ≡ true → place_of regions q ≡ Some x → IsAddress x.shape
        → (image : List ℕ) × (o : Option Path) × (w : ℕ) × (slice_get images q.region ≡ Some (Some image)) × (x.offset + 8 ≤ length image) × (number_at Ulint image x.offset ≡ pos w) × Refers regions o w × (at store q ≡ Some (reference o))
    -- a reference that is written
    pub stores_reference : Shows regions is_held images store → (q : Path) (x : Place) (o : Option Path) (w : ℕ) → is_held q.region ≡ true → place_of regions q ≡ Some x → IsAddress x.shape → Refers regions o w → Fits Ulint (pos w)
        → (image : List ℕ) × (slice_get images q.region ≡ Some (Some image)) × (x.offset + 8 ≤ length image) × Stored regions images store is_held q (written Ulint image x.offset (pos w)) (reference o)
    -- the class of an instance
    pub loads_class : Shows regions is_held images store → (q : Path) (x : Place) (c : ℕ) (name : List ℕ) (fs : Fields) → is_held q.region ≡ true → place_of regions q ≡ Some x → x.shape ≡ Instance c name fs
        → (image : List ℕ) × (slice_get images q.region ≡ Some (Some image)) × (x.offset + 8 ≤ length image) × (number_at Ulint image x.offset ≡ pos c)
    -- bytes that are copied assign the value, within a region too
    pub copies : Shows regions is_held images store → (q q' : Path) (x x' : Place) → is_held q.region ≡ true → is_held q'.region ≡ true → place_of regions q ≡ Some x → place_of regions q' ≡ Some x' → x.shape ≡ x'.shape
        → (source : List ℕ) × (image : List ℕ) × (v : Value) × (slice_get images q.region ≡ Some (Some source)) × (slice_get images q'.region ≡ Some (Some image)) × (x.offset + size x.shape ≤ length source) × (x'.offset + size x.shape ≤ length image)
        × (at store q ≡ Some v) × Stored regions images store is_held q' (replaced image x'.offset (slice_range source x.offset (x.offset + size x.shape))) v

pub record SpellingLaws (regions : ℕ → Option Shape) : Type 0 where
  -- bytes spell at most one value
  pub once : AreSmall regions → (sh : Shape) (v w : Value) (image : List ℕ) (i : ℕ) → Spells regions sh v image i → Spells regions sh w image i → v ≡ w
  -- and what spells a value is its image
  pub bytes : (sh : Shape) (v : Value) (image : List ℕ) (i : ℕ) → Spells regions sh v image i → slice_range image i (i + size sh) ≡ image_of regions sh v
  -- the same bytes spell the same value wherever they lie
  pub anywhere : (sh : Shape) (v : Value) (image image' : List ℕ) (i j : ℕ) → slice_range image' j (j + size sh) ≡ slice_range image i (i + size sh) → Spells regions sh v image i → Spells regions sh v image' j
