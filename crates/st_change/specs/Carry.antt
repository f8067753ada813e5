-- What a new place gets from an old value.
use Rattle.std.specs.Prelude.{ℕ, ℤ, pos, ◌+ℤ◌, Bool, false, not, ◌&&◌, ◌||◌, if◌then◌else◌, List, Option, Some, None}
use Rattle.plc_text.specs.Words.{same}
use Rattle.st_types.specs.declared.elem.Elem.{Elem}
use Rattle.st_types.specs.declared.st_type.StType.{StType}
use Rattle.st_types.specs.declared.st_type.StType.TheVariants as type
use Rattle.st_values.specs.Program.{Variable, Program, conforms}
use Rattle.st_values.specs.Value.{Path, Value, number, reference, array, structure, instance, Values, no_values, value_then, Members, no_members, member_then, place_of_index, element, ◌>>=◌}
use Rattle.st_values.specs.Shape.{Shape, Elementary, Enumeration, Reference, Interface, Array, Structure, Instance, Fields, no_fields, field_then, path_shape, same_elem, same_names}
use Rattle.st_change.specs.From.{Pairs, old_name, structure_pairs, class_pairs, new_path}

-- an old value with its shape, where there is one
abbrev pub Old : Type 0
Old = Option (Shape × Value)

-- ---- parts of an old value

-- the element of this index
abbrev pub old_element : Old → ℤ → Old
old_element (Some (Array low n sh, array l vs)) i = do
  k ← place_of_index low i
  v ← element vs k
  Some (sh, v)
old_element _ i = None

-- the variable of this name
abbrev pub old_field : Fields → Members → List ℕ → Old
old_field (field_then v sh fs) (member_then n w ms) name = if same v.name name then Some (sh, w) else old_field fs ms name
old_field _ _ name = None

-- the field of a structure of this name
abbrev pub field_before : List ℕ → Old → List ℕ → Old
field_before name (Some (Structure n fs, structure m ms)) f = if same n name then old_field fs ms f else None
field_before name _ f = None

-- the variable of an instance of a class of this name
abbrev pub variable_before : List ℕ → Old → List ℕ → Old
variable_before name (Some (Instance c n fs, instance m ms)) f = if same n name then old_field fs ms f else None
variable_before name _ f = None

abbrev pub before_by : (List ℕ → Old) → Option (List ℕ) → Old
before_by part None = None
before_by part (Some o) = part o

-- ---- numbers and references

abbrev pub number_of : Value → ℤ → ℤ
number_of (number z) held = z
number_of _ held = held

-- of an equal elementary type
abbrev pub elementary_before : Elem → Old → ℤ → ℤ
elementary_before e (Some (Elementary d, v)) held = if same_elem e d then number_of v held else held
elementary_before e _ held = held

-- of an enumeration of the same name and list
abbrev pub enumerator_before : List ℕ → List (List ℕ) → Old → ℤ → ℤ
enumerator_before name values (Some (Enumeration n vs, v)) held = if same n name && same_names vs values then number_of v held else held
enumerator_before name values _ held = held

abbrev pub shape_conforms : Program → StType → Option Shape → Bool
shape_conforms p t (Some (Instance c name fs)) = conforms p c t
shape_conforms p t _ = false

-- the path, where an instance that conforms to the type is there
abbrev pub checked : Program → StType → Option Path → Option Path
checked p t None = None
checked p t (Some q) = if shape_conforms p t (path_shape p q) then Some q else None

module _ (old new : Program) where
  abbrev pub relocated : StType → Option Path → Option Path
  relocated t None = None
  relocated t (Some q) = checked new t (new_path old new q)

  -- What held a reference or an interface value goes on with it; what held anything else becomes NULL.
  abbrev pub reference_before : StType → Old → Option Path → Option Path
  reference_before t (Some (Reference c name, reference o)) held = relocated t o
  reference_before t (Some (Interface i name, reference o)) held = relocated t o
  reference_before t (Some a) held = None
  reference_before t None held = held

  module _ (kept : Bool) where
    -- a marked variable stays as the new store has it
    abbrev pub stays : Variable → Bool
    stays v = v.marks.init_on_change || (v.marks.no_copy && not kept)

    -- The value of a new place: its shape, what was there before, and what the new store holds.
    abbrev mutual
      pub carry : Shape → Old → Value → Value
      carry (Elementary e) o (number z) = number (elementary_before e o z)
      carry (Enumeration name values) o (number z) = number (enumerator_before name values o z)
      carry (Reference c name) o (reference h) = reference (reference_before (type.Reference c) o h)
      carry (Interface i name) o (reference h) = reference (reference_before (type.Interface i) o h)
      carry (Array low n sh) o (array l hs) = array l (carry_elements sh o low hs)
      carry (Structure name fs) o (structure m hs) = structure m (carry_members fs (structure_pairs old new name) (field_before name o) hs)
      carry (Instance c name fs) o (instance m hs) = instance m (carry_members fs (class_pairs old new c) (variable_before name o) hs)
      carry sh o held = held

      -- from this index on
      pub carry_elements : Shape → Old → ℤ → Values → Values
      carry_elements sh o i no_values = no_values
      carry_elements sh o i (value_then h hs) = value_then (carry sh (old_element o i) h) (carry_elements sh o (i +ℤ pos 1) hs)

      pub carry_members : Fields → Pairs → (List ℕ → Old) → Members → Members
      carry_members fs ps part no_members = no_members
      carry_members no_fields ps part (member_then n h hs) = member_then n h hs
      carry_members (field_then v sh fs) ps part (member_then n h hs) =
          member_then n (if stays v then h else carry sh (before_by part (old_name ps v.name)) h) (carry_members fs ps part hs)
