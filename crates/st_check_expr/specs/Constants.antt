-- What is found out about an expression where a constant is wanted.
use Rattle.std.specs.Prelude.{◌≡◌, ℕ}
use Rattle.st_tree.specs.Expression.{Expression, expression_of}
use Rattle.st_rules.specs.declared.asked.Asked.{Asked}
use Rattle.st_rules.specs.Faults.{least}
use Rattle.st_rules.specs.Scope.{Scope}
use Rattle.st_rules.specs.Expressions.{type_of, typed}
use Rattle.st_unit_rules.specs.declared_names.Constants.{if_none, value_faults, constant_faults, constant_value}
use Rattle.constant_folding.specs.constant_values.Outcome.{outcome}
use Rattle.st_check_expr.specs.declared.constants.Constant.{Constant}

pub record IsConstant (c : Constant) (s : Scope) (asked : Asked) (e : Expression ℕ) : Type 0 where
  pub told : c.told ≡ type_of s asked e
  pub least : c.least ≡ least (constant_faults s asked e)
  pub tree : expression_of c.tree ≡ typed s asked e
  pub value : outcome c.value ≡ constant_value s asked e
  pub number : c.number ≡ if_none (value_faults s asked e) (constant_value s asked e)
