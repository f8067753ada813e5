use Rattle.std.proofs.Common.{◌≡◌, drop}
use Rattle.std.specs.Prelude.{nat_eq}
use Rattle.routine_tables.specs.signature_tables.Private.Declarers.{signed, first_of}
use Rattle.routine_tables.proofs.signature_tables.declarers.first_own.Given as goal

abbrev pub invariant-loop-place : goal.invariant-loop-place
invariant-loop-place l = first_of (λ j. nat_eq j l.interface) (signed (drop l.place l.methods)) ≡ first_of (λ j. nat_eq j l.interface) (signed l.methods)
