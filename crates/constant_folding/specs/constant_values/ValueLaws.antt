-- The typed tree of an expression tells its value, also of one that breaks rules or whose names are not told.
use Rattle.std.specs.Prelude.{◌≡◌, ℕ}
use Rattle.st_tree.specs.Expression.{Expression}
use Rattle.st_rules.specs.declared.asked.Asked.{Asked}
use Rattle.st_rules.specs.Expressions.{typed}
use Rattle.st_rules.specs.Scope.{Scope}
use Rattle.st_unit_rules.specs.declared_names.Constants.{constant_value}
use Rattle.constant_folding.specs.constant_values.Noted.{noted_value}

pub record ValueLaws : Type 0 where
  pub value : (s : Scope) (asked : Asked) (e : Expression ℕ) → noted_value (typed s asked e) ≡ constant_value s asked e
