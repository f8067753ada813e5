use Rattle.std.proofs.Common.{ap, ◌∙◌}
use Rattle.st_rules.specs.Expressions.{note}
use Rattle.st_unit_rules.specs.Initials.{given_type}
use Rattle.check_initial_values.specs.Fields.{meant}
use Rattle.check_initial_values.proofs.fields.noted_name.Goals as goal

pub returns-clause-note : goal.returns-clause-note
returns-clause-note c =
    c.note.ensures ∙ ap (λ t. note c.args.line t c.given_target.result) (c.in_ok-kind.ensures ∙ c.given_type.ensures) ∙ ap (λ m. note c.args.line (given_type (meant c.args.g)) m) c.given_target.ensures

pub returns-clause-name : goal.returns-clause-name
returns-clause-name c = c.in_ok-name.ensures ∙ c.as_str.ensures
