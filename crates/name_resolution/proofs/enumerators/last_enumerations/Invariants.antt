use Rattle.std.proofs.Common.{◌≡◌, ℕ, List, drop, None}
use Rattle.name_resolution.specs.Private.Places.{found_in}
use Rattle.name_resolution.specs.Private.Enumerators.{last_having}
use Rattle.name_resolution.proofs.enumerators.last_enumerations.Given as goal

-- what is found so far, with what is left, is what all gives
abbrev pub invariant-loop-i : goal.invariant-loop-i
invariant-loop-i l = (name : List ℕ) → last_having (found_in l.table name) l.i (drop l.i l.parts) name ≡ last_having None 0 l.parts name
