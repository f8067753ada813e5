use Rattle.std.proofs.Common.{◌≡◌, ◌≤◌, ℕ, List, drop, length}
use Rattle.st_rules.specs.Scope.{global_name}
use Rattle.name_resolution.specs.Private.Places.{found_in, first_from, is_variable}
use Rattle.name_resolution.proofs.places.global_variables.Given as goal

-- what is in the table is what the rest of the list has
abbrev pub invariant-places : goal.invariant-places
invariant-places l = record {
  within : l.i ≤ length l.all;
  finds : (name : List ℕ) → found_in l.table name ≡ first_from global_name is_variable l.i (drop l.i l.all) name;
}

abbrev pub decreases-places : goal.decreases-places
decreases-places l = l.i
