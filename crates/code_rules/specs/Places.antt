-- Where values lie: sizes and offsets of types, the locals of a call, and the block by which a call is given its arguments.
use Rattle.std.specs.Prelude.{ℕ, zero, suc, ◌+◌, ◌*◌, Bool, true, false, if◌then◌else◌, List, [], ◌∷◌, Option, Some, None, slice_get}
use Rattle.st_types.specs.declared.elem.Elem.TheVariants as elem
use Rattle.st_types.specs.declared.st_type.StType.{StType}
use Rattle.st_types.specs.declared.st_type.StType.TheVariants as type
use Rattle.st_tree.specs.declared.path.Step.TheVariants as step
use Rattle.st_values.specs.Program.{Variable, Program, class_variables}
use Rattle.st_values.specs.Value.{◌>>=◌}
use Rattle.st_values.specs.Shape.{Shape, shape_of}
use Rattle.st_meaning.specs.Call.{is_in_out, class_of_kind}
use Rattle.mem_layout.specs.store_bytes.Place.{size, Place, part_place}

abbrev pub size_in : Option Shape → ℕ
size_in None = 0
size_in (Some sh) = size sh

abbrev pub offset_in : Option Place → ℕ
offset_in None = 0
offset_in (Some x) = x.offset

abbrev pub kind_in : Option Variable → StType
kind_in None = type.Elementary elem.Dint
kind_in (Some v) = v.kind

-- a value that no word holds
abbrev pub is_large : StType → Bool
is_large (type.Elementary e) = false
is_large (type.Enumeration n) = false
is_large (type.Reference c) = false
is_large (type.Interface i) = false
is_large (type.Instance c) = false
is_large t = true

module _ (p : Program) where
  abbrev pub bytes_of : StType → ℕ
  bytes_of t = size_in (shape_of p t)

  -- a field of a structure, or a variable of an instance
  abbrev pub field_offset : StType → ℕ → ℕ
  field_offset t k = offset_in (shape_of p t >>= λ sh. part_place sh (step.Field k))

  -- the type of a variable of an instance
  abbrev pub variable_kind : StType → ℕ → StType
  variable_kind t k = kind_in (slice_get (class_variables p (class_of_kind t)) k)

  -- an in-out keeps an address
  abbrev pub width : Variable → ℕ
  width v = if is_in_out v.sort then 8 else bytes_of v.kind

  -- where local n lies, where the first lies at an offset
  abbrev pub local_offset : ℕ → List Variable → ℕ → ℕ
  local_offset offset [] n = offset
  local_offset offset (v ∷ vs) zero = offset
  local_offset offset (v ∷ vs) (suc n) = local_offset (offset + width v) vs n

  abbrev pub locals_end : ℕ → List Variable → ℕ
  locals_end offset [] = offset
  locals_end offset (v ∷ vs) = locals_end (offset + width v) vs

-- how many bytes a value takes behind the locals while it is kept there, by the sizes of types
abbrev pub room_of : (StType → ℕ) → StType → ℕ
room_of size_of t = if is_large t then size_of t else 0

-- The block of a call: eight bytes for the result, for which parameters are given, for the own instance, and then for each parameter.
-- A body that is entered may have more parameters than the one that is called: so these stand last.
abbrev pub of_result : ℕ
of_result = 0

abbrev pub of_mask : ℕ
of_mask = 8

abbrev pub of_own : ℕ
of_own = 16

abbrev pub of_parameter : ℕ → ℕ
of_parameter i = 24 + 8 * i

-- of a call with so many parameters
abbrev pub block_size : ℕ → ℕ
block_size n = 24 + 8 * n

-- the bit of the result; those of the parameters begin at 0
abbrev pub result_place : ℕ
result_place = 63
