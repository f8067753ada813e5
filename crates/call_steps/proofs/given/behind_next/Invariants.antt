use Rattle.std.proofs.Common.{◌≡◌, length}
use Rattle.routine_tables.specs.Parameters.{parameters_of}
use Rattle.st_meaning.specs.Call.{behind_next}
use Rattle.call_steps.proofs.given.behind_next.Given as goal

abbrev pub invariant-parameters : goal.invariant-parameters
invariant-parameters l = behind_next (parameters_of l.left) ≡ behind_next (parameters_of l.fn.left)

abbrev pub decreases-parameters : goal.decreases-parameters
decreases-parameters l = length l.left
