use Rattle.std.proofs.Common.{◌≡◌, drop}
use Rattle.routine_tables.specs.signature_tables.Private.Declarers.{signed, has_one}
use Rattle.routine_tables.proofs.signature_tables.declarers.has_one.Given as goal

abbrev pub invariant-loop-place : goal.invariant-loop-place
invariant-loop-place l = has_one l.tables.interfaces (signed (drop l.place l.methods)) l.interface ≡ has_one l.tables.interfaces (signed l.methods) l.interface
