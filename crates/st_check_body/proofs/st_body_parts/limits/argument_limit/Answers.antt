use Rattle.std.proofs.Common.{sym, ap, ◌∙◌}
use Rattle.st_tree.specs.Expression.{selectors_of, argument_of, argument_of-Positional, argument_of-Input}
use Rattle.st_rules.specs.Faults.{least}
use Rattle.st_rules.specs.Statements.{selector_limits}
use Rattle.check_nodes.proofs.ViewLaws.{output_is}
use Rattle.st_check_body.specs.st_body_parts.Private.Limits.{one_argument_limit}
use Rattle.st_check_body.proofs.st_body_parts.limits.argument_limit.Goals as goal

pub returns-in-Positional : goal.returns-in-Positional
returns-in-Positional c = c.operators_fault.ensures ∙ sym (ap (λ x. least (one_argument_limit x)) (ap argument_of c.in-Positional.is ∙ argument_of-Positional _))

pub returns-in-Input : goal.returns-in-Input
returns-in-Input c = c.operators_fault-in-Input.ensures ∙ sym (ap (λ x. least (one_argument_limit x)) (ap argument_of c.in-Input.is ∙ argument_of-Input _ _ _))

pub returns-in-Output : goal.returns-in-Output
returns-in-Output c =
    c.selectors_limit.ensures ∙ ap (λ ss. least (selector_limits (selectors_of ss))) c.as_slice.ensures
    ∙ sym (ap (λ x. least (one_argument_limit x)) (ap argument_of c.in-Output.is ∙ output_is _ _ _ _))
