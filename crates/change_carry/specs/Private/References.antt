-- What references and interface values get.
use Rattle.std.specs.Prelude.{Option, None}
use Rattle.st_types.specs.declared.st_type.StType.{StType}
use Rattle.st_types.specs.declared.st_type.StType.TheVariants as type
use Rattle.st_values.specs.Program.{Program}
use Rattle.st_values.specs.Value.{Path, Value, reference}
use Rattle.st_values.specs.Shape.{Shape, Reference, Interface}
use Rattle.st_change.specs.Carry.{relocated}

module _ (old new : Program) where
  -- where what a value refers to stands
  abbrev pub value_relocated : StType → Value → Option Path
  value_relocated t (reference o) = relocated old new t o
  value_relocated t v = None

  -- of a value of this shape
  abbrev pub reference_from : StType → Shape → Value → Option Path
  reference_from t (Reference c name) v = value_relocated t v
  reference_from t (Interface i name) v = value_relocated t v
  reference_from t sh v = None

  -- by the shape, the old shape, and the old value
  abbrev pub reference_by : Shape → Shape → Value → Option Path → Option Path
  reference_by (Reference c name) before v held = reference_from (type.Reference c) before v
  reference_by (Interface i name) before v held = reference_from (type.Interface i) before v
  reference_by sh before v held = held
