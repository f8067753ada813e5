-- The parts of old values.
use Rattle.std.specs.Prelude.{◌≡◌, ℕ, ℤ, if◌then◌else◌, List, Option, Some, None, option_map}
use Rattle.plc_text.specs.Words.{same}
use Rattle.st_values.specs.Value.{Value, array, structure, instance, Values, Members, place_of_index, element, member, ◌>>=◌}
use Rattle.st_values.specs.Shape.{Shape, Array, Structure, Instance, Fields, field}
use Rattle.st_change.specs.From.{field_number}
use Rattle.st_change.specs.Carry.{Old, old_field}
use Rattle.shape_trees.specs.Shape.{fields_of, shape_of}
use Rattle.value_trees.specs.Value.{members_of, value_of, values_of}
use Rattle.change_names.specs.change_pairs.Places.{Table, found_in}
use Rattle.change_carry.specs.declared.parts.Elements.{Elements as CodeElements}
use Rattle.change_carry.specs.declared.parts.Part.{Part}
use Rattle.change_carry.specs.declared.parts.Parts.{Parts as CodeParts}

-- ---- elements

-- the least index, the shape of the elements, and what they are
pub record Elements : Type 0 where
  pub low : ℤ
  pub shape : Shape
  pub values : Values

abbrev pub elements_of : CodeElements → Elements
elements_of e = record { low = e.low; shape = shape_of e.shape.now; values = values_of e.values.now }

abbrev pub array_values : Value → Option Values
array_values (array low vs) = Some vs
array_values v = None

abbrev pub elements_in : Shape → Value → Option Elements
elements_in (Array low n sh) v = option_map (λ vs. record { low = low; shape = sh; values = vs }) (array_values v)
elements_in sh v = None

abbrev pub element_at : Elements → ℤ → Option Value
element_at e i = place_of_index e.low i >>= λ k. element e.values k

-- with its shape
abbrev pub element_old : Elements → ℤ → Old
element_old e i = option_map (λ v. (e.shape, v)) (element_at e i)

-- ---- fields and variables

-- with what they are
pub record Parts : Type 0 where
  pub fields : Fields
  pub members : Members

abbrev pub parts_of : CodeParts → Parts
parts_of a = record { fields = fields_of a.fields.now; members = members_of a.members.now }

abbrev pub structure_members : Value → Option Members
structure_members (structure name ms) = Some ms
structure_members v = None

abbrev pub instance_members : Value → Option Members
instance_members (instance name ms) = Some ms
instance_members v = None

-- of a structure of this name
abbrev pub structure_parts : List ℕ → Shape → Value → Option Parts
structure_parts name (Structure n fs) v = if same n name then option_map (λ ms. record { fields = fs; members = ms }) (structure_members v) else None
structure_parts name sh v = None

-- of an instance of a class of this name
abbrev pub instance_parts : List ℕ → Shape → Value → Option Parts
instance_parts name (Instance c n fs) v = if same n name then option_map (λ ms. record { fields = fs; members = ms }) (instance_members v) else None
instance_parts name sh v = None

abbrev pub part_of : Part → Shape × Value
part_of a = (shape_of a.shape.now, value_of a.value.now)

-- by its number
abbrev pub part_in : Fields → Members → ℕ → Old
part_in fs ms k = field fs k >>= λ sh. member ms k >>= λ v. Some (sh, v)

-- the first of its name
abbrev pub part_named : Parts → List ℕ → Old
part_named a name = old_field a.fields a.members name

-- a table of where the first field of each name stands
pub record ArePlacesOf (table : Table) (fs : Fields) : Type 0 where
  pub by : (name : List ℕ) → found_in table name ≡ field_number fs name
