use Rattle.std.proofs.Common.{◌≡◌, ◌≤◌, ℕ, List, drop, length}
use Rattle.std.specs.Prelude.{true}
use Rattle.name_resolution.specs.Private.Places.{found_in, first_from}
use Rattle.name_resolution.proofs.places.types.Given as goal

-- what is in the table is what the rest of the list has
abbrev pub invariant-places : goal.invariant-places
invariant-places l = record {
  within : l.i ≤ length l.all;
  finds : (name : List ℕ) → found_in l.table name ≡ first_from (λ t. t.name) (λ t. true) l.i (drop l.i l.all) name;
}

abbrev pub decreases-places : goal.decreases-places
decreases-places l = l.i
