-- How many bytes a value takes, to which multiples it is aligned, and where its parts lie.
use Rattle.std.specs.Prelude.{ℕ, zero, suc, ◌+◌, ◌-◌, ◌*◌, ◌%◌, List, [], ◌∷◌, Option, Some, None, max, nat_lt, if◌then◌else◌}
use Rattle.st_types.specs.Elem.{bytes}
use Rattle.st_tree.specs.declared.path.Step.TheVariants as step
use Rattle.st_values.specs.Value.{Path, Step, ◌>>=◌, place_of_index}
use Rattle.st_values.specs.Shape.{Shape, Elementary, Enumeration, Reference, Interface, Array, Structure, Instance, Fields, no_fields, field_then}

-- how far it is from an offset to the next multiple
abbrev pub gap : ℕ → ℕ → ℕ
gap multiple offset = (multiple - offset % multiple) % multiple

abbrev mutual
  pub alignment : Shape → ℕ
  alignment (Elementary e) = bytes e
  alignment (Enumeration name values) = 4
  alignment (Reference c name) = 8
  alignment (Interface k name) = 8
  alignment (Array low n sh) = alignment sh
  alignment (Structure name fs) = greatest fs
  alignment (Instance c name fs) = 8

  -- the greatest alignment of fields, 1 without any
  pub greatest : Fields → ℕ
  greatest no_fields = 1
  greatest (field_then v sh fs) = max (alignment sh) (greatest fs)

abbrev mutual
  -- an instance begins with eight bytes for the number of its class
  pub size : Shape → ℕ
  size (Elementary e) = bytes e
  size (Enumeration name values) = 4
  size (Reference c name) = 8
  size (Interface k name) = 8
  size (Array low n sh) = n * size sh
  size (Structure name fs) = ending 0 fs + gap (greatest fs) (ending 0 fs)
  size (Instance c name fs) = ending 8 fs + gap 8 (ending 8 fs)

  -- where fields end of which the first lies at an offset or behind it, each at the next multiple of its alignment
  pub ending : ℕ → Fields → ℕ
  ending offset no_fields = offset
  ending offset (field_then v sh fs) = ending (offset + gap (alignment sh) offset + size sh) fs

-- how many bytes from the beginning something lies, and what it is
pub record Place : Type 0 where
  pub offset : ℕ
  pub shape : Shape

abbrev pub field_place : ℕ → Fields → ℕ → Option Place
field_place offset no_fields i = None
field_place offset (field_then v sh fs) zero = Some (record { offset = offset + gap (alignment sh) offset; shape = sh })
field_place offset (field_then v sh fs) (suc i) = field_place (offset + gap (alignment sh) offset + size sh) fs i

abbrev pub element_place : ℕ → Shape → Option ℕ → Option Place
element_place n sh None = None
element_place n sh (Some k) = if nat_lt k n then Some (record { offset = k * size sh; shape = sh }) else None

-- the part to which a step leads
abbrev pub part_place : Shape → Step → Option Place
part_place (Array low n sh) (step.Element i) = element_place n sh (place_of_index low i)
part_place (Structure name fs) (step.Field k) = field_place 0 fs k
part_place (Instance c name fs) (step.Field k) = field_place 8 fs k
part_place _ _ = None

-- and what several steps lead to
abbrev pub inner_place : Shape → List Step → Option Place
inner_place sh [] = Some (record { offset = 0; shape = sh })
inner_place sh (s ∷ ss) = do
  x ← part_place sh s
  y ← inner_place x.shape ss
  Some (record { offset = x.offset + y.offset; shape = y.shape })

-- the place of a path in its region, where each region has its shape
abbrev pub place_of : (ℕ → Option Shape) → Path → Option Place
place_of regions q = do
  sh ← regions q.region
  inner_place sh q.steps

-- the number as which the address of an instance is kept; NULL is 0
abbrev pub kept : ℕ → ℕ → ℕ
kept region offset = region * 4294967296 + offset + 1
