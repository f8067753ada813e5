-- Which bytes carry an old value into a new one, by the shapes of both.
use Rattle.std.specs.Prelude.{ℕ, zero, suc, ◌+◌, ◌-◌, ◌*◌, ℤ, pos, negsuc, ◌-ℤ◌, Bool, ◌&&◌, nat_eq, min, if◌then◌else◌, List, Option, Some, None}
use Rattle.plc_text.specs.Words.{same}
use Rattle.st_types.specs.declared.elem.Elem.{Elem}
use Rattle.st_types.specs.Elem.{bytes}
use Rattle.st_types.specs.declared.st_type.StType.{StType}
use Rattle.st_types.specs.declared.st_type.StType.TheVariants as type
use Rattle.st_values.specs.Program.{Program}
use Rattle.st_values.specs.Value.{◌>>=◌}
use Rattle.st_values.specs.Shape.{Shape, Elementary, Enumeration, Reference, Interface, Array, Structure, Instance, Fields, no_fields, field_then, same_elem, same_names}
use Rattle.mem_layout.specs.store_bytes.Place.{gap, alignment, greatest, size, ending}
use Rattle.st_change.specs.From.{Pairs, old_name, structure_pairs, class_pairs}
use Rattle.st_change.specs.Carry.{stays}
use Rattle.image_moves.specs.Moves.{Move, copy, address, clear, repeat, Moves, no_moves, move_then}

-- the one, and then the other
abbrev pub then_moves : Moves → Moves → Moves
then_moves no_moves ns = ns
then_moves (move_then m ms) ns = move_then m (then_moves ms ns)

abbrev pub one : Move → Moves
one m = move_then m no_moves

-- bytes between fields, where there are as many in both
abbrev pub gap_moves : ℕ → ℕ → ℕ → ℕ → Moves
gap_moves zero h from to = no_moves
gap_moves (suc g) h from to = if nat_eq (suc g) h then one (copy from to (suc g)) else no_moves

-- where a field begins, with the bytes before it that align it, and what it is
pub record Lies : Type 0 where
  pub begins : ℕ
  pub shape : Shape

abbrev pub named_place : ℕ → Fields → List ℕ → Option Lies
named_place at no_fields name = None
named_place at (field_then v sh fs) name = if same v.name name then Some (record { begins = at; shape = sh }) else named_place (at + gap (alignment sh) at + size sh) fs name

-- which element of a new and of an old array is the first that both have, where the old least index is so far from the new one
abbrev pub first_new : ℤ → ℕ
first_new (pos n) = n
first_new (negsuc n) = 0

abbrev pub first_old : ℤ → ℕ
first_old (pos n) = 0
first_old (negsuc n) = suc n

abbrev pub several : ℕ → ℕ → ℕ → ℕ → ℕ → Moves → Moves
several zero from to a b ms = no_moves
several (suc n) from to a b ms = one (repeat (suc n) from to a b ms)

-- elements of the indices that both arrays have, of which the old least one is so far from the new one
abbrev pub element_moves : ℤ → ℕ → Shape → ℕ → Shape → ℕ → ℕ → Moves → Moves
element_moves d n sh m x from to ms = several (min (n - first_new d) (m - first_old d)) (from + first_old d * size x) (to + first_new d * size sh) (size x) (size sh) ms

-- a field, from the old one
abbrev pub field_moves : (Shape → ℕ → ℕ → Moves) → Shape → Option Lies → ℕ → ℕ → ℕ → Moves
field_moves f sh None from to at = no_moves
field_moves f sh (Some x) from to at =
    let g = gap (alignment sh) at in
    let h = gap (alignment x.shape) x.begins in
    then_moves (gap_moves g h (from + x.begins) (to + at)) (f x.shape (from + (x.begins + h)) (to + (at + g)))

abbrev pub number_moves : Elem → Shape → ℕ → ℕ → Moves
number_moves e (Elementary d) from to = if same_elem e d then one (copy from to (bytes e)) else no_moves
number_moves e x from to = no_moves

abbrev pub enumerator_moves : List ℕ → List (List ℕ) → Shape → ℕ → ℕ → Moves
enumerator_moves name values (Enumeration n vs) from to = if same n name && same_names vs values then one (copy from to 4) else no_moves
enumerator_moves name values x from to = no_moves

-- what held anything else than a reference becomes NULL
abbrev pub reference_moves : ℕ → Shape → ℕ → ℕ → Moves
reference_moves k (Reference c name) from to = one (address k from to)
reference_moves k (Interface i name) from to = one (address k from to)
reference_moves k x from to = one (clear to)

abbrev pub array_moves : ℤ → ℕ → Shape → (Shape → ℕ → ℕ → Moves) → Shape → ℕ → ℕ → Moves
array_moves low n sh f (Array l m x) from to = element_moves (l -ℤ low) n sh m x from to (f x 0 0)
array_moves low n sh f x from to = no_moves

-- the bytes behind the fields, where there are as many in both
abbrev pub end_moves : ℕ → ℕ → ℕ → ℕ → ℕ → ℕ → Moves
end_moves width end old_width old_end from to = gap_moves (gap width end) (gap old_width old_end) (from + old_end) (to + end)

abbrev pub structure_moves : List ℕ → Fields → (Fields → ℕ → ℕ → Moves) → Shape → ℕ → ℕ → Moves
structure_moves name fs f (Structure n gs) from to =
    if same n name then then_moves (f gs from to) (end_moves (greatest fs) (ending 0 fs) (greatest gs) (ending 0 gs) from to) else no_moves
structure_moves name fs f x from to = no_moves

-- the number of the class stands in the new image already; where it is the old one, too, it may lie in a range that is moved
abbrev pub class_moves : ℕ → ℕ → ℕ → ℕ → Moves
class_moves c d from to = if nat_eq c d then one (copy from to 8) else no_moves

abbrev pub instance_moves : ℕ → List ℕ → Fields → (Fields → ℕ → ℕ → Moves) → Shape → ℕ → ℕ → Moves
instance_moves c name fs f (Instance d n gs) from to =
    if same n name then then_moves (class_moves c d from to) (then_moves (f gs from to) (end_moves 8 (ending 8 fs) 8 (ending 8 gs) from to)) else no_moves
instance_moves c name fs f x from to = no_moves

module _ (old new : Program) (aim : StType → ℕ) (keeping : Bool) where
  abbrev mutual
    -- a value of the new shape that lies at the second offset, from one of the old shape that lies at the first
    pub moves_of : Shape → Shape → ℕ → ℕ → Moves
    moves_of (Elementary e) x from to = number_moves e x from to
    moves_of (Enumeration name values) x from to = enumerator_moves name values x from to
    moves_of (Reference c name) x from to = reference_moves (aim (type.Reference c)) x from to
    moves_of (Interface i name) x from to = reference_moves (aim (type.Interface i)) x from to
    moves_of (Array low n sh) x from to = array_moves low n sh (moves_of sh) x from to
    moves_of (Structure name fs) x from to = structure_moves name fs (fields_moves 0 0 fs (structure_pairs old new name)) x from to
    moves_of (Instance c name fs) x from to = instance_moves c name fs (fields_moves 8 8 fs (class_pairs old new c)) x from to

    -- the fields behind an offset, each from its old name, among old fields behind an offset
    pub fields_moves : ℕ → ℕ → Fields → Pairs → Fields → ℕ → ℕ → Moves
    fields_moves at start no_fields ps gs from to = no_moves
    fields_moves at start (field_then v sh fs) ps gs from to =
        then_moves (if stays old new keeping v then no_moves else field_moves (moves_of sh) sh (old_name ps v.name >>= named_place start gs) from to at)
        (fields_moves (at + gap (alignment sh) at + size sh) start fs ps gs from to)
