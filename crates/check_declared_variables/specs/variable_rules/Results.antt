-- What is found out about the type of a result.
use Rattle.std.specs.Prelude.{◌≡◌, ℕ, Option}
use Rattle.st_tree.specs.declared.type_spec.TypeSpec.{TypeSpec}
use Rattle.st_rules.specs.Faults.{least}
use Rattle.st_rules.specs.Scope.{Scope}
use Rattle.st_unit_rules.specs.VariableRules.{result_faults}
use Rattle.st_unit_rules.specs.Checked.{IfThere, TypedSpec}
use Rattle.check_declared_variables.specs.declared.variable_rules.results.CheckedResult.{CheckedResult}

pub record ChecksResult (c : CheckedResult) (s : Scope) (line : ℕ) (t : Option (TypeSpec ℕ)) : Type 0 where
  pub least : c.least ≡ least (result_faults s line t)
  pub result : IfThere (TypedSpec s) t c.result
