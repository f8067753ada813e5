use Rattle.std.proofs.Common.{◌≡◌, ℕ, List, ◌++◌, drop}
use Rattle.routine_tables.specs.signature_tables.Private.Declarers.{signed_in, named_from}
use Rattle.routine_tables.proofs.signature_tables.declarers.declarers.Given as goal

-- what is noted, and what is left, is the whole
abbrev pub invariant-loop-interface : goal.invariant-loop-interface
invariant-loop-interface l = (q : List ℕ) → (signed_in l.table q ++ named_from q l.interface (drop l.interface l.interfaces)) ≡ named_from q 0 l.interfaces
