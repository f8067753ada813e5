-- Parts of expressions one by one.
use Rattle.std.specs.Prelude.{ℕ, Bool}
use Rattle.st_tree.specs.Expression.{Argument, Positional, Input, Output, Selectors}
use Rattle.st_tree.specs.declared.expression.Root.{Root}
use Rattle.st_rules.specs.Expressions.{whole_target}
use Rattle.st_rules.specs.Scope.{Scope}
use Rattle.st_unit_rules.specs.declared_names.Constants.{is_told, names_are_told}

abbrev pub place_is_told : Scope → (Root ℕ × Selectors ℕ) → Bool
place_is_told s p = is_told (whole_target s p.0 p.1)

abbrev pub argument_is_told : Scope → Argument ℕ → Bool
argument_is_told s (Positional e) = names_are_told s e
argument_is_told s (Input l name e) = names_are_told s e
argument_is_told s (Output l name k r ss) = is_told (whole_target s r ss)
