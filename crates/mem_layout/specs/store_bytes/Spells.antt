-- Which bytes spell which value.
use Rattle.std.specs.Prelude.{◌≡◌, ℕ, suc, ◌+◌, ◌*◌, ◌<◌, ℤ, pos, Bool, true, List, Option, Some, None, replicate, slice_range, slice_get, length}
use Rattle.st_types.specs.declared.elem.Elem.{Elem}
use Rattle.st_types.specs.declared.elem.Elem.TheVariants.{Udint, Ulint}
use Rattle.st_types.specs.Elem.{bytes}
use Rattle.st_types.specs.Range.{Fits}
use Rattle.mem_image.specs.Image.{bytes_of}
use Rattle.st_values.specs.Value.{Path, Value, number, reference, array, structure, instance, Values, no_values, value_then, Members, no_members, member_then, Store, element, member}
use Rattle.st_values.specs.Shape.{Shape, Elementary, Enumeration, Reference, Interface, Array, Structure, Instance, Fields, no_fields, field_then}
use Rattle.mem_layout.specs.store_bytes.Place.{gap, alignment, greatest, size, ending, place_of, kept}

-- how many elements
abbrev pub count : Values → ℕ
count no_values = 0
count (value_then v vs) = suc (count vs)

-- a number of the kind, whose bytes lie at an offset
pub record Holds (e : Elem) (z : ℤ) (image : List ℕ) (i : ℕ) : Type 0 where
  pub fits : Fits e z
  pub stands : slice_range image i (i + bytes e) ≡ bytes_of e z

-- so many bytes between fields
abbrev pub Blank : List ℕ → ℕ → ℕ → Type 0
Blank image i n = slice_range image i (i + n) ≡ replicate n 0

-- the path leads to an instance, whose address is kept as this number
pub record Names (regions : ℕ → Option Shape) (q : Path) (w : ℕ) : Type 0 where
  pub offset : ℕ
  pub class : ℕ
  pub name : List ℕ
  pub fields : Fields
  pub place : place_of regions q ≡ Some (record { offset = offset; shape = Instance class name fields })
  pub word : w ≡ kept q.region offset

abbrev pub Refers : (ℕ → Option Shape) → Option Path → ℕ → Type 0
Refers regions None w = w ≡ 0
Refers regions (Some q) w = Names regions q w

pub record HoldsAddress (regions : ℕ → Option Shape) (o : Option Path) (image : List ℕ) (i : ℕ) : Type 0 where
  pub word : ℕ
  pub refers : Refers regions o word
  pub holds : Holds Ulint (pos word) image i

module _ (regions : ℕ → Option Shape) where
  abbrev mutual
    -- the bytes from i on, as many as the shape has
    pub Spells : Shape → Value → List ℕ → ℕ → Type 0
    Spells (Elementary e) v image i = (z : ℤ) × (v ≡ number z) × Holds e z image i
    Spells (Enumeration name values) v image i = (z : ℤ) × (v ≡ number z) × Holds Udint z image i
    Spells (Reference c name) v image i = (o : Option Path) × (v ≡ reference o) × HoldsAddress regions o image i
    Spells (Interface k name) v image i = (o : Option Path) × (v ≡ reference o) × HoldsAddress regions o image i
    Spells (Array low n sh) v image i =
        (vs : Values) × (v ≡ array low vs) × (count vs ≡ n)
        × ((k : ℕ) → k < n → (w : Value) × (element vs k ≡ Some w) × Spells sh w image (i + k * size sh))
    Spells (Structure name fs) v image i =
        (ms : Members) × (v ≡ structure name ms) × EachSpells 0 fs ms image i × Blank image (i + ending 0 fs) (gap (greatest fs) (ending 0 fs))
    -- the number of the class first
    Spells (Instance c name fs) v image i =
        (ms : Members) × (v ≡ instance name ms) × Holds Ulint (pos c) image i × EachSpells 8 fs ms image i × Blank image (i + ending 8 fs) (gap 8 (ending 8 fs))

    -- the fields behind an offset of what begins at i
    pub EachSpells : ℕ → Fields → Members → List ℕ → ℕ → Type 0
    EachSpells offset no_fields ms image i = ms ≡ no_members
    EachSpells offset (field_then x sh fs) ms image i =
        (w : Value) × (ws : Members) × (ms ≡ member_then x.name w ws) × Blank image (i + offset) (gap (alignment sh) offset)
        × Spells sh w image (i + (offset + gap (alignment sh) offset)) × EachSpells (offset + gap (alignment sh) offset + size sh) fs ws image i

-- the path, where there is one, is of an instance, and its address can be kept
pub record IsKept (regions : ℕ → Option Shape) (o : Option Path) : Type 0 where
  pub word : ℕ
  pub refers : Refers regions o word
  pub fits : Fits Ulint (pos word)

module _ (regions : ℕ → Option Shape) where
  abbrev mutual
    -- the value has the shape, its numbers are of their kinds, and its references can be kept
    pub Suits : Shape → Value → Type 0
    Suits (Elementary e) v = (z : ℤ) × (v ≡ number z) × Fits e z
    Suits (Enumeration name values) v = (z : ℤ) × (v ≡ number z) × Fits Udint z
    Suits (Reference c name) v = (o : Option Path) × (v ≡ reference o) × IsKept regions o
    Suits (Interface k name) v = (o : Option Path) × (v ≡ reference o) × IsKept regions o
    Suits (Array low n sh) v = (vs : Values) × (v ≡ array low vs) × (count vs ≡ n) × ((k : ℕ) → k < n → (w : Value) × (element vs k ≡ Some w) × Suits sh w)
    Suits (Structure name fs) v = (ms : Members) × (v ≡ structure name ms) × EachSuits fs ms
    Suits (Instance c name fs) v = (ms : Members) × (v ≡ instance name ms) × Fits Ulint (pos c) × EachSuits fs ms

    pub EachSuits : Fields → Members → Type 0
    EachSuits no_fields ms = ms ≡ no_members
    EachSuits (field_then x sh fs) ms = (w : Value) × (ws : Members) × (ms ≡ member_then x.name w ws) × Suits sh w × EachSuits fs ws

-- a region's image spells its value in the store
pub record ShowsAt (regions : ℕ → Option Shape) (images : List (Option (List ℕ))) (store : Store) (r : ℕ) (sh : Shape) : Type 0 where
  pub image : List ℕ
  pub value : Value
  pub there : slice_get images r ≡ Some (Some image)
  pub stands : member store r ≡ Some value
  pub long : length image ≡ size sh
  pub spells : Spells regions sh value image 0

-- the images of the regions that are held show the store
pub record Shows (regions : ℕ → Option Shape) (is_held : ℕ → Bool) (images : List (Option (List ℕ))) (store : Store) : Type 0 where
  pub region : (r : ℕ) (sh : Shape) → is_held r ≡ true → regions r ≡ Some sh → ShowsAt regions images store r sh
