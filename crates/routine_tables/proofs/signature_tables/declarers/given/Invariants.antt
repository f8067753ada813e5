use Rattle.std.proofs.Common.{◌≡◌}
use Rattle.routine_tables.specs.signature_tables.Private.Declarers.{signed, given_within}
use Rattle.routine_tables.proofs.signature_tables.declarers.given.Given as goal

-- what is left of the way leads to the method
abbrev pub invariant-upward : goal.invariant-upward
invariant-upward l = given_within l.tables.interfaces (signed l.methods) l.left l.here ≡ given_within l.tables.interfaces (signed l.methods) l.count l.interface

abbrev pub decreases-upward : goal.decreases-upward
decreases-upward l = l.left
