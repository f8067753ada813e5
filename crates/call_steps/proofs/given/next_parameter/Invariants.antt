use Rattle.std.proofs.Common.{◌≡◌, length}
use Rattle.routine_tables.specs.Parameters.{parameters_of}
use Rattle.st_meaning.specs.Call.{next_parameter}
use Rattle.call_steps.proofs.given.next_parameter.Given as goal

abbrev pub invariant-parameters : goal.invariant-parameters
invariant-parameters l = next_parameter (parameters_of l.left) ≡ next_parameter (parameters_of l.fn.left)

abbrev pub decreases-parameters : goal.decreases-parameters
decreases-parameters l = length l.left
