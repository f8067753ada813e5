-- What is found out about a type as it is written.
use Rattle.std.specs.Prelude.{◌≡◌, ℕ}
use Rattle.st_tree.specs.declared.type_spec.TypeSpec.{TypeSpec}
use Rattle.st_rules.specs.Faults.{least}
use Rattle.st_rules.specs.Scope.{Scope}
use Rattle.st_unit_rules.specs.declared_names.WrittenTypes.{type_written, type_faults}
use Rattle.st_unit_rules.specs.Checked.{TypedSpec}
use Rattle.check_declared_variables.specs.declared.type_rules.types.CheckedType.{CheckedType}

pub record ChecksType (c : CheckedType) (s : Scope) (t : TypeSpec ℕ) : Type 0 where
  pub kind : c.kind ≡ type_written s t
  pub least : c.least ≡ least (type_faults s t)
  pub tree : TypedSpec s t c.tree
