-- The bytes of a value.
use Rattle.std.specs.Prelude.{ℕ, ◌+◌, ℤ, pos, List, [], ◌++◌, Option, Some, None, replicate}
use Rattle.st_types.specs.declared.elem.Elem.TheVariants.{Udint, Ulint}
use Rattle.mem_image.specs.Image.{bytes_of}
use Rattle.st_values.specs.Value.{Path, Value, number, reference, array, structure, instance, Values, no_values, value_then, Members, no_members, member_then}
use Rattle.st_values.specs.Shape.{Shape, Elementary, Enumeration, Reference, Interface, Array, Structure, Instance, Fields, no_fields, field_then}
use Rattle.mem_layout.specs.store_bytes.Place.{gap, alignment, greatest, size, ending, Place, place_of, kept}

abbrev pub number_of : Value → ℤ
number_of (number z) = z
number_of _ = pos 0

abbrev pub target_of : Value → Option Path
target_of (reference o) = o
target_of _ = None

abbrev pub elements_of : Value → Values
elements_of (array low vs) = vs
elements_of _ = no_values

abbrev pub members_of : Value → Members
members_of (structure name ms) = ms
members_of (instance name ms) = ms
members_of _ = no_members

abbrev pub first_of : Members → Value
first_of no_members = number (pos 0)
first_of (member_then n w ws) = w

abbrev pub rest_of : Members → Members
rest_of no_members = no_members
rest_of (member_then n w ws) = ws

abbrev pub each_of : (Value → List ℕ) → Values → List ℕ
each_of f no_values = []
each_of f (value_then w ws) = f w ++ each_of f ws

abbrev pub word_at : Path → Option Place → ℕ
word_at q None = 0
word_at q (Some x) = kept q.region x.offset

module _ (regions : ℕ → Option Shape) where
  abbrev pub word_of : Option Path → ℕ
  word_of None = 0
  word_of (Some q) = word_at q (place_of regions q)

  abbrev mutual
    pub image_of : Shape → Value → List ℕ
    image_of (Elementary e) v = bytes_of e (number_of v)
    image_of (Enumeration name values) v = bytes_of Udint (number_of v)
    image_of (Reference c name) v = bytes_of Ulint (pos (word_of (target_of v)))
    image_of (Interface k name) v = bytes_of Ulint (pos (word_of (target_of v)))
    image_of (Array low n sh) v = each_of (image_of sh) (elements_of v)
    image_of (Structure name fs) v = fields_of 0 fs (members_of v) ++ replicate (gap (greatest fs) (ending 0 fs)) 0
    image_of (Instance c name fs) v = bytes_of Ulint (pos c) ++ (fields_of 8 fs (members_of v) ++ replicate (gap 8 (ending 8 fs)) 0)

    -- the bytes of fields behind an offset, with zeros between them
    pub fields_of : ℕ → Fields → Members → List ℕ
    fields_of offset no_fields ms = []
    fields_of offset (field_then x sh fs) ms =
        replicate (gap (alignment sh) offset) 0 ++ (image_of sh (first_of ms) ++ fields_of (offset + gap (alignment sh) offset + size sh) fs (rest_of ms))
