-- What is found by offsets, as data.
use Rattle.std.specs.Prelude.{ℕ, ◌+◌, ℤ, ◌-ℤ◌, List, Option, Some, None}
use Rattle.st_values.specs.Program.{Program}
use Rattle.st_values.specs.Value.{◌>>=◌}
use Rattle.st_values.specs.Shape.{Shape, Elementary, Enumeration, Reference, Interface, Array, Structure, Instance, Fields, no_fields, field_then}
use Rattle.mem_layout.specs.store_bytes.Place.{gap, alignment, size}
use Rattle.st_change.specs.From.{new_name, pairs_of}
use Rattle.image_moves.specs.Ways.{Way, nowhere, instance, fields, elements, Parts, no_parts, part_then}
use Rattle.carry_moves.specs.CarryMoves.{Lies, first_new, first_old}
use Rattle.carry_moves.specs.Found.{field_lies, start_of}

abbrev pub class_at : Shape → Option ℕ
class_at (Instance c name fs) = Some c
class_at _ = None

-- elements from this least index on, of so many bytes
abbrev pub elements_way : ℤ → ℕ → (Shape → Way) → Shape → Way
elements_way l a f (Array low n z) = elements (record { old = a; new = size z; skip = first_new (low -ℤ l); lead = first_old (low -ℤ l); count = n }) (f z)
elements_way l a f z = nowhere

abbrev pub part_at : ℕ → ℕ → (Shape → Way) → Option Lies → Parts → Parts
part_at start end f None ps = part_then start end 0 nowhere ps
part_at start end f (Some x) ps = part_then start end (start_of x) (f x.shape) ps

module _ (old new : Program) where
  abbrev mutual
    -- of an old shape into a new one
    pub way : Shape → Shape → Way
    way (Elementary e) z = nowhere
    way (Enumeration name values) z = nowhere
    way (Reference c name) z = nowhere
    way (Interface i name) z = nowhere
    way (Array l m y) z = elements_way l (size y) (way y) z
    way (Structure name gs) z = fields (parts 0 gs z)
    way (Instance c name gs) z = instance (class_at z) (parts 8 gs z)

    pub parts : ℕ → Fields → Shape → Parts
    parts at no_fields z = no_parts
    parts at (field_then v sh gs) z =
        part_at (at + gap (alignment sh) at) (at + gap (alignment sh) at + size sh) (way sh) (new_name (pairs_of old new z) v.name >>= λ n. field_lies z n) (parts (at + gap (alignment sh) at + size sh) gs z)
