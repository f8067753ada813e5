-- The parameter at a place of a list.
use Rattle.std.proofs.Common.{◌≡◌, ℕ, zero, suc, List, [], ◌∷◌, Option, Some, None, refl, drop}
use Rattle.std.specs.Prelude.{slice_get}
use Rattle.st_rules.specs.Calls.{Matched, first_match}
use Rattle.check_nodes.specs.declared.slots.Slot.{Slot}
use Rattle.check_nodes.specs.Slots.{slotted, slots}

abbrev pub at_place : Option (Option Slot) → Matched
at_place None = None
at_place (Some o) = slotted o

pub slot_there : (xs : List (Option Slot)) (i : ℕ) → first_match (drop i (slots xs)) ≡ at_place (slice_get xs i)
slot_there [] zero = refl
slot_there [] (suc i) = refl
slot_there (x ∷ xs) zero = refl
slot_there (x ∷ xs) (suc i) = slot_there xs i
