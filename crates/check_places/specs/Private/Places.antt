-- How the selectors of a place begin.
use Rattle.std.specs.Prelude.{ℕ, Bool, true, false, Option, Some, None}
use Rattle.st_tree.specs.Expression.{Selector, Field, Index, Selectors, no_selectors, selector_then}
use Rattle.st_tree.specs.Expression as tree
use Rattle.st_rules.specs.Places.{Standing, untold, own_instance, no_base}

abbrev pub is_field : Selector ℕ → Bool
is_field (Field k n) = true
is_field (Index k es) = false
is_field (tree.Target k) = false

abbrev pub begins_with_field : Selectors ℕ → Bool
begins_with_field no_selectors = false
begins_with_field (selector_then s ss) = is_field s

-- where no selector stands
abbrev pub is_bare : Selectors ℕ → Bool
is_bare no_selectors = true
is_bare (selector_then s ss) = false

-- SUPER, by the base where that is found
abbrev pub base_standing : Option ℕ → Standing
base_standing None = untold
base_standing (Some b) = own_instance b

-- the same by whether the class has EXTENDS, where there is a class
abbrev pub super_by : Option Bool → Option ℕ → Standing
super_by None base = untold
super_by (Some true) base = base_standing base
super_by (Some false) base = no_base
