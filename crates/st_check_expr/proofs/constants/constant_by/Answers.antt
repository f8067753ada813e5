use Rattle.std.proofs.Common.{ℕ, Option, ap, ◌∙◌}
use Rattle.plc_text.specs.declared.code.Code.{Code}
use Rattle.st_rules.specs.Faults.{earlier}
use Rattle.constant_folding.specs.constant_values.Outcome.{outcome}
use Rattle.st_check_expr.specs.Private.Constants.{number_found}
use Rattle.st_check_expr.proofs.constants.constant_by.Goals as goal

pub returns-clause-least : goal.returns-clause-least
returns-clause-least c = λ s. c.earlier.ensures ∙ ap (λ (y : Option (Code × ℕ)). earlier y c.args.of_operators) (c.own_fault-own.ensures s)

pub returns-clause-number : goal.returns-clause-number
returns-clause-number c = λ s. c.number_of.ensures ∙ ap (λ (y : Option (Code × ℕ)). number_found y (outcome c.args.value)) (c.own_fault-own.ensures s)
