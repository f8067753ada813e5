use Rattle.std.proofs.Common.{◌≡◌, ◌≤◌, ℕ, List, drop, length, Some}
use Rattle.std.specs.Prelude.{if◌then◌else◌}
use Rattle.std.specs.List.{list_any}
use Rattle.plc_text.specs.Words.{same}
use Rattle.name_resolution.specs.Private.Places.{found_in}
use Rattle.name_resolution.proofs.enumerators.note_all.Given as goal

abbrev pub invariant-names : goal.invariant-names
invariant-names l = record {
  within : l.i ≤ length l.names;
  noted : (name : List ℕ) → found_in l.table name ≡ (if list_any (λ n. same n name) (drop l.i l.names) then Some l.number else found_in l.initial.table name);
}

abbrev pub decreases-names : goal.decreases-names
decreases-names l = l.i
