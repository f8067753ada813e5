-- A value of an enumeration that may be found.
use Rattle.std.specs.Prelude.{ℕ, Option, Some, None}
use Rattle.st_types.specs.declared.st_type.StType.{StType}
use Rattle.st_types.specs.declared.st_type.StType.TheVariants as type
use Rattle.st_tree.specs.declared.program.Target.{Target}
use Rattle.st_tree.specs.declared.program.Target.TheVariants as target

abbrev pub value_type : Option (ℕ × ℕ) → Option StType
value_type None = None
value_type (Some x) = Some (type.Enumeration x.0)

abbrev pub value_target : Option (ℕ × ℕ) → Target
value_target None = target.Nothing
value_target (Some x) = target.Enumerator x.1
