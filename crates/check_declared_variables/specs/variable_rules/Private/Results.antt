-- A result, from what was found out about its type.
use Rattle.std.specs.Prelude.{◌≡◌, ℕ, false, Some}
use Rattle.st_rules.specs.Faults.{least, earlier}
use Rattle.st_unit_rules.specs.VariableRules.{instance_out_of_place}
use Rattle.check_declared_variables.specs.declared.type_rules.types.CheckedType.{CheckedType}
use Rattle.check_declared_variables.specs.declared.variable_rules.results.CheckedResult.{CheckedResult}

pub record IsResult (c : CheckedResult) (line : ℕ) (found : CheckedType) : Type 0 where
  pub least : c.least ≡ earlier found.least (least (instance_out_of_place line false found.kind))
  pub result : c.result ≡ Some found.tree
