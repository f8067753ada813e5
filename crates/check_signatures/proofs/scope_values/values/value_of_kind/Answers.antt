use Rattle.std.proofs.Common.{Some, ap, ◌∙◌}
use Rattle.st_tree.specs.Expression.{expression_of}
use Rattle.st_rules.specs.Literals.{asked_of}
use Rattle.st_unit_rules.specs.declared_names.Constants.{told_value}
use Rattle.check_signatures.proofs.scope_values.values.value_of_kind.Goals as goal

pub returns : goal.returns
returns c = c.in_ok-value.ensures ∙ ap (λ a. told_value c.args.s.now a (expression_of c.args.e.now)) (c.asked_of-asked.ensures ∙ ap (λ t. asked_of (Some t)) c.in_ok-wanted.ensures)
