-- Selectors, one after the other, by whether they lead into an output from outside.
use Rattle.std.specs.Prelude.{ℕ, Bool}
use Rattle.st_tree.specs.Expression.{Selectors}
use Rattle.st_rules.specs.Scope.{Scope}
use Rattle.st_rules.specs.Places.{in_outer_output}
use Rattle.check_places.specs.declared.assignability.Within.{Within}
use Rattle.check_places.specs.Standing.{standing}

abbrev pub within : Scope → Within → Selectors ℕ → Bool
within s x ss = in_outer_output s x.outer (standing x.standing) ss
