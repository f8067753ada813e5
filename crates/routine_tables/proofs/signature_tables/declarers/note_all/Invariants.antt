use Rattle.std.proofs.Common.{◌≡◌, ℕ, List, ◌++◌, drop}
use Rattle.routine_tables.specs.signature_tables.Private.Declarers.{signed_in, all_named}
use Rattle.routine_tables.proofs.signature_tables.declarers.note_all.Given as goal

-- what is noted, and what is left, is the whole
abbrev pub invariant-loop-method : goal.invariant-loop-method
invariant-loop-method l = (q : List ℕ) → (signed_in l.table q ++ all_named q l.interface (drop l.method-index l.methods)) ≡ (signed_in l.initial.table q ++ all_named q l.interface l.methods)
