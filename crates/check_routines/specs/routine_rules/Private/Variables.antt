-- Sections and a result together.
use Rattle.std.specs.Prelude.{◌≡◌, ℕ, Option}
use Rattle.plc_text.specs.declared.code.Code.{Code}
use Rattle.st_rules.specs.Faults.{earlier}
use Rattle.check_declared_variables.specs.declared.variable_rules.results.CheckedResult.{CheckedResult}
use Rattle.check_declared_variables.specs.declared.variable_rules.sections.CheckedSections.{CheckedSections}
use Rattle.check_routines.specs.declared.routine_rules.variables.CheckedVariables.{CheckedVariables}

-- which break this besides
pub record AreVariables (c : CheckedVariables) (found : CheckedSections) (spec : CheckedResult) (limits : Option (Code × ℕ)) : Type 0 where
  pub least : c.least ≡ earlier (earlier found.least spec.least) limits
  pub result : c.result ≡ spec.result
  pub sections : c.sections ≡ found.sections
