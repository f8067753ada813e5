use Rattle.std.proofs.Common.{ℕ, Option, ap, ◌∙◌}
use Rattle.plc_text.specs.declared.code.Code.{Code}
use Rattle.st_rules.specs.Faults.{earlier}
use Rattle.st_check_expr.proofs.constants.own_fault.Goals as goal

pub returns : goal.returns
returns c = λ s.
    c.earlier.ensures
    ∙ ap (λ (y : Option (Code × ℕ)). earlier y c.divisor_fault.result) (c.earlier-second.ensures ∙ ap (λ (y : Option (Code × ℕ)). earlier y c.args.of_parts) c.earlier-first.ensures)
    ∙ ap (earlier (earlier (earlier c.args.least c.args.of_value) c.args.of_parts)) (c.divisor_fault.ensures s)
