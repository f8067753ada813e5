-- Sizes and places worked out by hand.
use Rattle.std.proofs.Common.{◌≡◌, ℕ, pos, negsuc, [], ◌∷◌, Some, None, refl}
use Rattle.st_types.specs.declared.elem.Elem.{Elem}
use Rattle.st_types.specs.declared.elem.Elem.TheVariants as elem
use Rattle.st_types.specs.declared.st_type.StType.TheVariants as type
use Rattle.st_tree.specs.declared.declaration.SectionSort.TheVariants as sort
use Rattle.st_tree.specs.declared.path.Step.TheVariants as step
use Rattle.st_tree.specs.Reads.{no_marks}
use Rattle.st_values.specs.Program.{Variable}
use Rattle.st_values.specs.Shape.{Shape, Elementary, Enumeration, Reference, Interface, Array, Structure, Instance, Fields, no_fields, field_then}
use Rattle.mem_layout.specs.store_bytes.Place.{alignment, size, Place, inner_place}

-- the name and the rest of a variable count for nothing here
abbrev v : Variable
v = record { name = []; sort = sort.Var; kind = type.Elementary elem.Bool; initial = None; marks = no_marks; address = None }

infixr 5 ◌▸◌
abbrev ◌▸◌ : Shape → Fields → Fields
sh ▸ fs = field_then v sh fs

abbrev of : Elem → Shape
of e = Elementary e

abbrev at : ℕ → Shape → Place
at n sh = record { offset = n; shape = sh }

-- ---- the three sizes of the standing example

hundred_bools : size (Array (pos 0) 100 (of elem.Bool)) ≡ 100
hundred_bools = refl

abbrev bool_lint_int : Shape
bool_lint_int = Structure [] (of elem.Bool ▸ (of elem.Lint ▸ (of elem.Int ▸ no_fields)))

structure_of_three : size bool_lint_int ≡ 24
structure_of_three = refl

abbrev bool_int : Fields
bool_int = of elem.Bool ▸ (of elem.Int ▸ no_fields)

instance_of_two : size (Instance 0 [] bool_int) ≡ 16
instance_of_two = refl

-- ---- every kind behind a BOOL

abbrev behind_bool : Shape → Shape
behind_bool sh = Structure [] (of elem.Bool ▸ (sh ▸ no_fields))

behind_8 : inner_place (behind_bool (of elem.Usint)) (step.Field 1 ∷ []) ≡ Some (at 1 (of elem.Usint))
behind_8 = refl

behind_16 : inner_place (behind_bool (of elem.Word)) (step.Field 1 ∷ []) ≡ Some (at 2 (of elem.Word))
behind_16 = refl

behind_32 : inner_place (behind_bool (of elem.Time)) (step.Field 1 ∷ []) ≡ Some (at 4 (of elem.Time))
behind_32 = refl

behind_64 : inner_place (behind_bool (of elem.Lword)) (step.Field 1 ∷ []) ≡ Some (at 8 (of elem.Lword))
behind_64 = refl

behind_enumeration : inner_place (behind_bool (Enumeration [] [])) (step.Field 1 ∷ []) ≡ Some (at 4 (Enumeration [] []))
behind_enumeration = refl

behind_reference : inner_place (behind_bool (Reference 0 [])) (step.Field 1 ∷ []) ≡ Some (at 8 (Reference 0 []))
behind_reference = refl

behind_interface : inner_place (behind_bool (Interface 0 [])) (step.Field 1 ∷ []) ≡ Some (at 8 (Interface 0 []))
behind_interface = refl

behind_array : inner_place (behind_bool (Array (pos 1) 3 (of elem.Int))) (step.Field 1 ∷ step.Element (pos 3) ∷ []) ≡ Some (at 6 (of elem.Int))
behind_array = refl

sizes_behind_bool : size (behind_bool (of elem.Byte)) ≡ 2
sizes_behind_bool = refl

size_behind_bool_16 : size (behind_bool (of elem.Uint)) ≡ 4
size_behind_bool_16 = refl

size_behind_bool_array : size (behind_bool (Array (pos 1) 3 (of elem.Int))) ≡ 8
size_behind_bool_array = refl

-- ---- structures in one another, and arrays of structures with padding at their ends

-- ten bytes of fields make twelve
abbrev odd : Shape
odd = Structure [] (of elem.Dint ▸ (of elem.Dint ▸ (of elem.Bool ▸ (of elem.Bool ▸ no_fields))))

odd_size : size odd ≡ 12
odd_size = refl

odd_array : size (Array (negsuc 1) 5 odd) ≡ 60
odd_array = refl

odd_element : inner_place (Array (negsuc 1) 5 odd) (step.Element (pos 1) ∷ step.Field 3 ∷ []) ≡ Some (at 45 (of elem.Bool))
odd_element = refl

no_such_element : inner_place (Array (negsuc 1) 5 odd) (step.Element (pos 3) ∷ []) ≡ None
no_such_element = refl

nested_size : size (behind_bool (behind_bool (behind_bool (of elem.Dint)))) ≡ 16
nested_size = refl

nested_field : inner_place (behind_bool (behind_bool (behind_bool (of elem.Dint)))) (step.Field 1 ∷ step.Field 1 ∷ step.Field 1 ∷ []) ≡ Some (at 12 (of elem.Dint))
nested_field = refl

-- ---- classes

-- the fields of a derived class begin in the padding of its base: BOOL, INT, then BYTE at 12 and LINT at 16
abbrev derived : Shape
derived = Instance 1 [] (of elem.Bool ▸ (of elem.Int ▸ (of elem.Byte ▸ (of elem.Lint ▸ no_fields))))

derived_byte : inner_place derived (step.Field 2 ∷ []) ≡ Some (at 12 (of elem.Byte))
derived_byte = refl

derived_lint : inner_place derived (step.Field 3 ∷ []) ≡ Some (at 16 (of elem.Lint))
derived_lint = refl

derived_size : size derived ≡ 24
derived_size = refl

-- a BYTE, and an instance of 24 bytes that is aligned to eight
abbrev owner : Shape
owner = Instance 2 [] (of elem.Byte ▸ (derived ▸ no_fields))

owner_size : size owner ≡ 40
owner_size = refl

owner_inner : inner_place owner (step.Field 1 ∷ step.Field 3 ∷ []) ≡ Some (at 32 (of elem.Lint))
owner_inner = refl

-- ---- what is empty

empty_structure : size (Structure [] no_fields) ≡ 0
empty_structure = refl

empty_alignment : alignment (Structure [] no_fields) ≡ 1
empty_alignment = refl

empty_class : size (Instance 0 [] no_fields) ≡ 8
empty_class = refl

array_of_nothing : size (Array (pos 0) 10000000000 (Structure [] no_fields)) ≡ 0
array_of_nothing = refl

-- ---- long and two-dimensional arrays

bools : size (Array (pos 0) 131072 (of elem.Bool)) ≡ 131072
bools = refl

-- three rows of four UINT
matrix : size (Array (pos 1) 3 (Array (pos 1) 4 (of elem.Uint))) ≡ 24
matrix = refl

matrix_element : inner_place (Array (pos 1) 3 (Array (pos 1) 4 (of elem.Uint))) (step.Element (pos 3) ∷ step.Element (pos 2) ∷ []) ≡ Some (at 18 (of elem.Uint))
matrix_element = refl
