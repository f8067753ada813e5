-- What values get, part by part.
use Rattle.std.specs.Prelude.{ℕ, zero, suc, ℤ, pos, ◌+ℤ◌, Bool, if◌then◌else◌, List, Option, Some, None}
use Rattle.st_values.specs.Program.{Variable, Region, Program}
use Rattle.st_values.specs.Value.{Value, Values, no_values, value_then, Members, no_members, member_then, Store}
use Rattle.st_values.specs.Shape.{Shape, Array, Structure, Instance, region_shape}
use Rattle.st_change.specs.From.{Pairs, same_flag, old_name, structure_pairs, class_pairs}
use Rattle.st_change.specs.Carry.{Old, field_before, variable_before, before_by, stays, carry, carry_elements, carry_members}
use Rattle.st_change.specs.Change.{region_before, carried_region}
use Rattle.st_change.specs.Counterpart.{kept}
use Rattle.change_carry.specs.Private.Parts.{Elements, element_old}

-- ---- one place of many

-- another element at this place, where it is there
abbrev pub element_by : ℕ → (Value → Value) → Values → Values
element_by k f no_values = no_values
element_by zero f (value_then v vs) = value_then (f v) vs
element_by (suc k) f (value_then v vs) = value_then v (element_by k f vs)

abbrev pub member_by : ℕ → (Value → Value) → Members → Members
member_by k f no_members = no_members
member_by zero f (member_then n v ms) = member_then n (f v) ms
member_by (suc k) f (member_then n v ms) = member_then n v (member_by k f ms)

module _ (old new : Program) (keeping : Bool) where
  -- ---- elements

  -- from this index on
  abbrev pub elements_carried : Shape → Elements → ℤ → Values → Values
  elements_carried sh e i no_values = no_values
  elements_carried sh e i (value_then h hs) = value_then (carry old new keeping sh (element_old e i) h) (elements_carried sh e (i +ℤ pos 1) hs)

  -- by the shape, the old shape, and the old value
  abbrev pub elements_by : Shape → Shape → Value → Values → Values
  elements_by (Array low n sh) before v held = carry_elements old new keeping sh (Some (before, v)) low held
  elements_by sh before v held = held

  -- ---- fields and variables

  abbrev pub structure_by : Shape → Shape → Value → Members → Members
  structure_by (Structure name fs) before v held = carry_members old new keeping fs (structure_pairs old new name) (field_before name (Some (before, v))) held
  structure_by sh before v held = held

  abbrev pub instance_by : Shape → Shape → Value → Members → Members
  instance_by (Instance c name fs) before v held = carry_members old new keeping fs (class_pairs old new c) (variable_before name (Some (before, v))) held
  instance_by sh before v held = held

  -- one field
  abbrev pub carried : Variable × Shape → Pairs → (List ℕ → Old) → Value → Value
  carried f ps part held = if stays old new keeping f.0 then held else carry old new keeping f.1 (before_by part (old_name ps f.0.name)) held

  -- ---- regions

  abbrev pub in_shape : Option Shape → Old → Value → Value
  in_shape None o held = held
  in_shape (Some sh) o held = carry old new keeping sh o held

  -- whatever its marks
  abbrev pub region_carried : Store → ℕ → Value → Value
  region_carried before r held = in_shape (region_shape new r) (region_before old new before r) held

  -- where it is meant, by its marks
  abbrev pub region_by : Store → ℕ → Region → Value → Value
  region_by before r x held = if same_flag keeping (kept old new r) then carried_region old new keeping (region_shape new r) x (region_before old new before r) held else held
