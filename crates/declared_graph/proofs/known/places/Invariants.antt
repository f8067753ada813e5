use Rattle.std.proofs.Common.{◌≡◌, ◌≤◌, ℕ, List, map, drop, length}
use Rattle.st_unit_rules.specs.Cycles.{place_from}
use Rattle.st_unit_rules.specs.declaration_list.Listed.{declared_as}
use Rattle.declared_graph.specs.Private.Known.{found_in, passes}
use Rattle.declared_graph.proofs.known.places.Given as goal

-- what is in the table is what the rest of the list has
abbrev pub invariant-places : goal.invariant-places
invariant-places l = record {
  within : l.i ≤ length l.list;
  finds : (name : List ℕ) → found_in l.table name ≡ place_from (passes l.which) name l.i (map declared_as (drop l.i l.list));
}

abbrev pub decreases-places : goal.decreases-places
decreases-places l = l.i
