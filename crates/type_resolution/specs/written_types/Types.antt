-- What is told of a constant: its type and its value, where both can be told.
use Rattle.std.specs.Prelude.{◌≡◌, ℤ, Option, Some, None}
use Rattle.st_types.specs.declared.st_type.StType.{StType}
use Rattle.st_rules.specs.Scope.{Scope}
use Rattle.st_unit_rules.specs.declared_names.Variables.{Written, constant_of}
use Rattle.st_unit_rules.specs.declared_names.WrittenTypes.{type_written}

abbrev pub TellsConstant : Option (StType × ℤ) → Scope → Written → Type 0
TellsConstant None s w = constant_of s w ≡ None
TellsConstant (Some x) s w = (type_written s w.item.kind ≡ Some x.0) × (constant_of s w ≡ Some x.1)
