use Rattle.std.proofs.Common.{sym, ap, ◌∙◌}
use Rattle.st_tree.specs.Expression.{expressions_of, selector_of, selector_of-Field, selector_of-Index, selector_of-Target}
use Rattle.st_rules.specs.Faults.{least}
use Rattle.st_rules.specs.Statements.{index_limits}
use Rattle.st_check_body.specs.st_body_parts.Private.Limits.{one_selector_limit}
use Rattle.st_check_body.proofs.st_body_parts.limits.selector_limit.Goals as goal

pub returns-in-Index : goal.returns-in-Index
returns-in-Index c =
    c.indices_limit.ensures ∙ ap (λ es. least (index_limits (expressions_of es))) c.as_slice.ensures
    ∙ sym (ap (λ x. least (one_selector_limit x)) (ap selector_of c.in-Index.is ∙ selector_of-Index _ _))

pub returns-in-Field : goal.returns-in-Field
returns-in-Field c = sym (ap (λ x. least (one_selector_limit x)) (ap selector_of c.in-Field.is ∙ selector_of-Field _ _))

pub returns-in-Target : goal.returns-in-Target
returns-in-Target c = sym (ap (λ x. least (one_selector_limit x)) (ap selector_of c.in-Target.is ∙ selector_of-Target _))
