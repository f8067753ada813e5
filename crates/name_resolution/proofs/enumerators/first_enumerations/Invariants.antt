use Rattle.std.proofs.Common.{◌≡◌, ◌≤◌, ℕ, List, drop, length}
use Rattle.name_resolution.specs.Private.Places.{found_in}
use Rattle.name_resolution.specs.Private.Enumerators.{first_having}
use Rattle.name_resolution.proofs.enumerators.first_enumerations.Given as goal

abbrev pub invariant-parts : goal.invariant-parts
invariant-parts l = record {
  within : l.i ≤ length l.parts;
  first : (name : List ℕ) → found_in l.table name ≡ first_having l.i (drop l.i l.parts) name;
}

abbrev pub decreases-parts : goal.decreases-parts
decreases-parts l = l.i
