-- Names and what stands behind them.
use Rattle.std.specs.Prelude.{ℕ, Bool, true, false, ◌&&◌, if◌then◌else◌, List}
use Rattle.st_tree.specs.Expression.{Selector, Field, Selectors, no_selectors, selector_then}
use Rattle.st_rules.specs.Places.{is_last, qualifies}
use Rattle.st_rules.specs.Scope.{Scope, sought, dot_qualifier}
use Rattle.st_unit_rules.specs.declared_names.Constants.{is_constant_meaning}

abbrev pub is_field : Selector ℕ → Bool
is_field (Field l name) = true
is_field _ = false

-- one name stands behind, and nothing else
abbrev pub is_one_field : Selectors ℕ → Bool
is_one_field no_selectors = false
is_one_field (selector_then x xs) = is_last xs && is_field x

-- a constant, an enumerator, or an enumerator behind the name of its type
abbrev pub is_constant_at : Scope → List ℕ → Selectors ℕ → Bool
is_constant_at s name ss = if is_last ss then is_constant_meaning s (sought s false name) else is_one_field ss && qualifies s (dot_qualifier s name)
