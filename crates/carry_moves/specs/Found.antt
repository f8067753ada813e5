-- Where an instance that lies at an offset of an old value lies in a new one, and addresses by it.
use Rattle.std.specs.Prelude.{◌≡◌, ◌<◌, ℕ, zero, suc, ◌+◌, ◌-◌, ◌*◌, ◌/◌, ◌%◌, ℤ, pos, ◌+ℤ◌, unsigned_abs, nat_lt, if◌then◌else◌, List, Option, Some, None, option_map}
use Rattle.st_types.specs.declared.st_type.StType.{StType}
use Rattle.st_values.specs.Program.{Program, conforms}
use Rattle.st_values.specs.Value.{place_of_index, ◌>>=◌}
use Rattle.st_values.specs.Shape.{Shape, Elementary, Enumeration, Reference, Interface, Array, Structure, Instance, Fields, no_fields, field_then, region_shape}
use Rattle.mem_layout.specs.store_bytes.Place.{gap, alignment, size, kept}
use Rattle.st_change.specs.From.{new_name, pairs_of, new_region}
pub use Rattle.image_moves.specs.Ways.{Found}
use Rattle.image_moves.specs.Ways.{further, of_size}
use Rattle.carry_moves.specs.CarryMoves.{Lies, named_place}

abbrev pub instance_at : Shape → ℕ → Found
instance_at (Instance c name fs) offset = Some (offset, c)
instance_at _ offset = None

-- the field of this name of a structure or an instance
abbrev pub field_lies : Shape → List ℕ → Option Lies
field_lies (Structure name fs) n = named_place 0 fs n
field_lies (Instance c name fs) n = named_place 8 fs n
field_lies _ n = None

abbrev pub start_of : Lies → ℕ
start_of x = x.begins + gap (alignment x.shape) x.begins

-- an element of this number, if there are so many
abbrev pub at_element : ℕ → Shape → (Shape → Found) → Option ℕ → Found
at_element n z f None = None
at_element n z f (Some j) = if nat_lt j n then further (j * size z) (f z) else None

abbrev pub at_index : (Shape → Found) → Shape → ℤ → Found
at_index f (Array low n z) i = at_element n z f (place_of_index low i)
at_index f z i = None

-- the word of an address, NULL where there is none
abbrev pub or_null : Option ℕ → ℕ
or_null None = 0
or_null (Some w) = w

module _ (old new : Program) where
  -- in the field that comes from an old one of this name
  abbrev pub inside : (Shape → ℕ → Found) → Shape → List ℕ → ℕ → Found
  inside f z o offset = do
    n ← new_name (pairs_of old new z) o
    x ← field_lies z n
    further (start_of x) (f x.shape offset)

  abbrev mutual
    -- the old shape and the new one
    pub found : Shape → Shape → ℕ → Found
    found (Elementary e) z offset = None
    found (Enumeration name values) z offset = None
    found (Reference c name) z offset = None
    found (Interface i name) z offset = None
    found (Array l m y) z offset = of_size (size y) (at_index (λ w. found y w (offset % size y)) z (l +ℤ pos (offset / size y)))
    found (Structure name gs) z offset = found_in 0 gs z offset
    found (Instance c name gs) z zero = instance_at z 0
    found (Instance c name gs) z (suc offset) = found_in 8 gs z (suc offset)

    -- in the first field that ends behind the offset
    pub found_in : ℕ → Fields → Shape → ℕ → Found
    found_in at no_fields z offset = None
    found_in at (field_then v sh gs) z offset =
        if nat_lt offset (at + gap (alignment sh) at + size sh) then inside (found sh) z v.name (offset - (at + gap (alignment sh) at)) else found_in (at + gap (alignment sh) at + size sh) gs z offset

  -- ---- addresses

  abbrev pub conforming : StType → ℕ → ℕ × ℕ → Option ℕ
  conforming t r x = if conforms new x.1 t then Some (kept r x.0) else None

  abbrev pub word_found : StType → ℕ → ℕ → Option ℕ
  word_found t region offset = do
    r ← new_region old new region
    osh ← region_shape old region
    z ← region_shape new r
    x ← found osh z offset
    conforming t r x

  -- what an address of the old program is in the new one, for a variable of the type
  abbrev pub word_moved : StType → ℕ → ℕ
  word_moved t zero = 0
  word_moved t (suc w) = or_null (word_found t (w / 4294967296) (w % 4294967296))

  abbrev pub address_moved : (ℕ → StType) → ℕ → ℤ → ℤ
  address_moved aimed k z = pos (word_moved (aimed k) (unsigned_abs z))

-- addresses fit 64 bits
pub record HasAddresses (p : Program) : Type 0 where
  pub by : (r : ℕ) (sh : Shape) → region_shape p r ≡ Some sh → (size sh < 4294967296) × (r < 4294967296)
