-- A routine from its parts.
use Rattle.std.specs.Prelude.{◌≡◌, ℕ, Option}
use Rattle.plc_text.specs.declared.code.Code.{Code}
use Rattle.st_rules.specs.Faults.{earlier}
use Rattle.check_routines.specs.declared.routine_rules.bodies.FoundBody.{FoundBody}
use Rattle.check_routines.specs.declared.routine_rules.routines.CheckedRoutine.{CheckedRoutine}
use Rattle.check_routines.specs.declared.routine_rules.variables.CheckedVariables.{CheckedVariables}

-- what it declares, what its locals break, and its body
pub record IsRoutine (c : CheckedRoutine) (variables : CheckedVariables) (locals : Option (Code × ℕ)) (found : FoundBody) : Type 0 where
  pub least : c.least ≡ earlier (earlier variables.least locals) found.least
  pub result : c.result ≡ variables.result
  pub sections : c.sections ≡ variables.sections
  pub body : c.body ≡ found.body
