-- Dimensions of an array, from what is told of its elements.
use Rattle.std.specs.Prelude.{◌≡◌, ℕ, List, [], ◌∷◌, ◌++◌, flat_map, reverse}
use Rattle.st_tree.specs.declared.type_spec.Bounds.{Bounds}
use Rattle.st_rules.specs.Faults.{least, earlier}
use Rattle.st_rules.specs.Scope.{Scope}
use Rattle.st_unit_rules.specs.declared_names.WrittenTypes.{array_of, arrays_of, dimension_faults}
use Rattle.st_unit_rules.specs.Checked.{Each, TypedBounds}
use Rattle.check_declared_variables.specs.declared.type_rules.bounds.CheckedDimension.{CheckedDimension}
use Rattle.check_declared_variables.specs.declared.type_rules.dimensions.Told.{Told}
use Rattle.check_declared_variables.specs.declared.type_rules.dimensions.Dimensions.{Dimensions}

-- with one more dimension around
pub record Surrounds (x before : Dimensions) (d : CheckedDimension) : Type 0 where
  pub kind : x.told.kind ≡ array_of d.low d.high before.told.kind
  pub least : x.told.least ≡ earlier d.least before.told.least
  pub bounds : x.bounds.items ≡ before.bounds.items ++ d.bounds ∷ []

-- these dimensions around what is told of the elements, and their bounds, the last ones first
pub record DimensionsFind (x : Dimensions) (s : Scope) (bs : List (Bounds ℕ)) (inner : Told) : Type 0 where
  pub kind : x.told.kind ≡ arrays_of s bs inner.kind
  pub least : x.told.least ≡ earlier (least (flat_map (dimension_faults s) bs)) inner.least
  pub bounds : Each (TypedBounds s) bs (reverse x.bounds.items)
