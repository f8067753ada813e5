use Rattle.std.proofs.Common.{◌≡◌, length}
use Rattle.st_meaning.specs.st_frame.Promise.Calls.{next_number}
use Rattle.routine_tables.specs.Parameters.{parameters_of}
use Rattle.codegen_parts.proofs.calls.next_number.Given as goal

abbrev pub invariant-parameters : goal.invariant-parameters
invariant-parameters l = next_number l.number (parameters_of l.rest) ≡ next_number l.i (parameters_of l.left)

abbrev pub decreases-parameters : goal.decreases-parameters
decreases-parameters l = length l.rest
