-- The value that bytes spell, as a function on all bytes.
use Rattle.std.specs.Prelude.{ℕ, zero, suc, ◌+◌, ◌-◌, ◌*◌, ◌/◌, ◌%◌, ℤ, pos, ◌+ℤ◌, unsigned_abs, nat_eq, nat_lt, if◌then◌else◌, List, [], ◌∷◌, Option, Some, None}
use Rattle.st_types.specs.declared.elem.Elem.TheVariants.{Udint, Ulint}
use Rattle.st_tree.specs.declared.path.Step.TheVariants as step
use Rattle.mem_image.specs.Image.{value_at}
use Rattle.st_values.specs.Value.{Path, Step, Value, number, reference, array, structure, instance, Values, no_values, value_then, Members, no_members, member_then}
use Rattle.st_values.specs.Shape.{Shape, Elementary, Enumeration, Reference, Interface, Array, Structure, Instance, Fields, no_fields, field_then}
use Rattle.mem_layout.specs.store_bytes.Place.{gap, alignment, size}

-- ---- ways to instances

abbrev pub behind : Step → Option (List Step) → Option (List Step)
behind s None = None
behind s (Some ss) = Some (s ∷ ss)

-- among so many elements of a size, the first of which has this index
abbrev pub element_way : (ℕ → Option (List Step)) → ℕ → ℤ → ℕ → ℕ → Option (List Step)
element_way f n i zero o = None
element_way f n i (suc k) o = if nat_lt o n then behind (step.Element i) (f o) else element_way f n (i +ℤ pos 1) k (o - n)

-- the steps to the instance that begins at an offset
abbrev mutual
  pub way : Shape → ℕ → Option (List Step)
  way (Elementary e) o = None
  way (Enumeration name values) o = None
  way (Reference c name) o = None
  way (Interface k name) o = None
  way (Array low n sh) o = element_way (way sh) (size sh) low n o
  way (Structure name fs) o = field_way 0 0 fs o
  way (Instance c name fs) o = if nat_eq o 0 then Some [] else field_way 8 0 fs o

  -- among fields behind an offset, the first of which has this number
  pub field_way : ℕ → ℕ → Fields → ℕ → Option (List Step)
  field_way off k no_fields o = None
  field_way off k (field_then v sh fs) o =
      if nat_lt o (off + gap (alignment sh) off + size sh) then behind (step.Field k) (way sh (o - (off + gap (alignment sh) off)))
      else field_way (off + gap (alignment sh) off + size sh) (suc k) fs o

-- ---- values

abbrev pub decoded_elements : (ℕ → Value) → ℕ → ℕ → ℕ → Values
decoded_elements f n zero i = no_values
decoded_elements f n (suc k) i = value_then (f i) (decoded_elements f n k (i + n))

abbrev pub path_by : ℕ → Option (List Step) → Option Path
path_by r None = None
path_by r (Some ss) = Some (record { region = r; steps = ss })

abbrev pub path_in : ℕ → Option Shape → ℕ → Option Path
path_in r None o = None
path_in r (Some sh) o = path_by r (way sh o)

module _ (regions : ℕ → Option Shape) where
  -- the path of the instance whose address is kept as this number
  abbrev pub path_kept : ℕ → Option Path
  path_kept w = if nat_eq w 0 then None else path_in ((w - 1) / 4294967296) (regions ((w - 1) / 4294967296)) ((w - 1) % 4294967296)

  abbrev mutual
    -- the value of the shape that the bytes from i on spell
    pub decoded : Shape → List ℕ → ℕ → Value
    decoded (Elementary e) image i = number (value_at e image i)
    decoded (Enumeration name values) image i = number (value_at Udint image i)
    decoded (Reference c name) image i = reference (path_kept (unsigned_abs (value_at Ulint image i)))
    decoded (Interface k name) image i = reference (path_kept (unsigned_abs (value_at Ulint image i)))
    decoded (Array low n sh) image i = array low (decoded_elements (decoded sh image) (size sh) n i)
    decoded (Structure name fs) image i = structure name (decoded_fields 0 fs image i)
    decoded (Instance c name fs) image i = instance name (decoded_fields 8 fs image i)

    pub decoded_fields : ℕ → Fields → List ℕ → ℕ → Members
    decoded_fields off no_fields image i = no_members
    decoded_fields off (field_then x sh fs) image i =
        member_then x.name (decoded sh image (i + (off + gap (alignment sh) off))) (decoded_fields (off + gap (alignment sh) off + size sh) fs image i)
