-- Tables of what is laid out, and when they are right.
use Rattle.std.specs.Prelude.{◌≡◌, ℕ, ◌+◌, List, [], ◌∷◌, Bool, true, false, Option, Some, None, slice_get}
use Rattle.st_types.specs.declared.st_type.StType.{StType}
use Rattle.st_types.specs.declared.st_type.StType.TheVariants as type
use Rattle.st_values.specs.Program.{Variable, Program, class_variables}
use Rattle.st_values.specs.Shape.{Shape, Structure, Instance, Fields, no_fields, field_then, shape_within}
use Rattle.program_tables.specs.st_initial.Variables.{fields_at}
use Rattle.mem_layout.specs.store_bytes.Place.{gap, alignment, greatest, size}
use Rattle.mem_layout.specs.Layout.{IsSmall}
use Rattle.mem_layout.specs.declared.sizes.Measure.{Measure}
use Rattle.mem_layout.specs.declared.sizes.Field.{Field}
use Rattle.mem_layout.specs.declared.sizes.Entry.{Entry}
use Rattle.mem_layout.specs.declared.sizes.Tables.{Tables}

abbrev pub list_of : Tables → Bool → List (Option Entry)
list_of t true = t.classes
list_of t false = t.structures

-- the type of a class, or of a structure
abbrev pub named : Bool → ℕ → StType
named true c = type.Instance c
named false n = type.Structure n

-- their variables, none where the number is that of another type
abbrev pub members : Program → Bool → ℕ → List Variable
members p true c = class_variables p c
members p false n = fields_at p n

-- where the fields begin: those of an instance behind the number of its class
abbrev pub start : Bool → ℕ
start true = 8
start false = 0

-- what an instance or a structure is aligned to
abbrev pub wide : Bool → Fields → ℕ
wide true fs = 8
wide false fs = greatest fs

-- the fields of a class, or of a structure
abbrev pub fields_in : Bool → Shape → Option Fields
fields_in true (Instance c name fs) = Some fs
fields_in false (Structure name fs) = Some fs
fields_in _ _ = None

pub record IsMeasure (sh : Shape) (m : Measure) : Type 0 where
  pub size-is : m.size ≡ size sh
  pub alignment-is : m.alignment ≡ alignment sh

-- the rows are those of the fields behind an offset
abbrev pub Rows : ℕ → List Field → Fields → Type 0
Rows off [] no_fields = Unit {0}
Rows off (r ∷ rs) (field_then v sh fs) = (r.offset ≡ off + gap (alignment sh) off) × (r.kind ≡ v.kind) × Rows (off + gap (alignment sh) off + size sh) rs fs
Rows off _ _ = ⊥

pub record LaysOut (class : Bool) (e : Entry) (sh : Shape) : Type 0 where
  pub fields : Fields
  pub made : fields_in class sh ≡ Some fields
  pub rows : Rows (start class) e.fields fields
  pub measure : IsMeasure sh e.measure

-- what is laid out is so by its shape, where it has one
pub record AreTables (p : Program) (t : Tables) : Type 0 where
  pub entry : (class : Bool) (k : ℕ) (e : Entry) (n : ℕ) (sh : Shape) → slice_get (list_of t class) k ≡ Some (Some e) → shape_within p n (named class k) ≡ Some sh → LaysOut class e sh

-- what unfolds so deep and is small is laid out
pub record Reach (p : Program) (n : ℕ) (t : Tables) : Type 0 where
  pub entry : (class : Bool) (k : ℕ) (sh : Shape) → shape_within p n (named class k) ≡ Some sh → IsSmall sh → (e : Entry) × (slice_get (list_of t class) k ≡ Some (Some e))
