use Rattle.std.proofs.Common.{◌≡◌, ◌+◌, length}
use Rattle.code_rules.specs.Code.{same_bits}
use Rattle.routine_tables.specs.Parameters.{parameters_of}
use Rattle.codegen_parts.proofs.calls.same_bits.Given as goal

abbrev pub invariant-parameters : goal.invariant-parameters
invariant-parameters l = l.mask + same_bits l.i (parameters_of l.left) ≡ same_bits 0 (parameters_of l.parameters)

abbrev pub decreases-parameters : goal.decreases-parameters
decreases-parameters l = length l.left
