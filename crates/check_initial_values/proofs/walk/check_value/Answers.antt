use Rattle.std.proofs.Common.{refl, ap, ◌∙◌}
use Rattle.st_tree.specs.Expression.{expression_of}
use Rattle.st_tree.specs.Initial.{initial_of-Value}
use Rattle.st_unit_rules.specs.Initials.{outcome_target, with_note}
use Rattle.constant_folding.specs.constant_values.Outcome.{outcome}
use Rattle.check_initial_values.specs.Worth.{noted}
use Rattle.check_initial_values.proofs.ValueLaws.{value_checks}
use Rattle.check_initial_values.proofs.walk.check_value.Goals as goal

pub returns : goal.returns
returns c =
    value_checks _ _ _ _ _ _ _ _ c.in_ok-copied.ensures c.asked_of-asked.ensures c.in_ok-c.ensures refl (initial_of-Value _)
    (c.with_value.ensures ∙ ap (λ t. with_note (noted (outcome_target (outcome c.in_ok-c.c.value))) (expression_of t)) c.into_tree.ensures)
