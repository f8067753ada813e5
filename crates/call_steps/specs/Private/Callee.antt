-- Whether selectors end.
use Rattle.std.specs.Prelude.{Bool, true, false}
use Rattle.st_tree.specs.Expression.{Selectors, no_selectors, selector_then}

abbrev pub is_last : {A : Type 0} → Selectors A → Bool
is_last no_selectors = true
is_last (selector_then s ss) = false
