use Rattle.std.proofs.Common.{◌≡◌, drop}
use Rattle.st_rules.specs.Interfaces.{first_with}
use Rattle.routine_tables.specs.signature_tables.Private.Declarers.{signed, has_one}
use Rattle.routine_tables.proofs.signature_tables.declarers.first_with.Given as goal

abbrev pub invariant-loop-place : goal.invariant-loop-place
invariant-loop-place l = first_with (has_one l.tables.interfaces (signed l.methods)) (drop l.place l.interfaces) ≡ first_with (has_one l.tables.interfaces (signed l.methods)) l.interfaces
