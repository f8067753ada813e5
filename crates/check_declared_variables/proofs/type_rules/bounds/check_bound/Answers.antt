use Rattle.check_declared_variables.proofs.type_rules.BoundLaws.{bound_checks}
use Rattle.check_declared_variables.proofs.type_rules.bounds.check_bound.Goals as goal

pub returns : goal.returns
returns c = bound_checks _ _ _ _ _ _ c.line_of.ensures c.names_are_told-told.ensures c.in_ok-c.ensures c.bound_of.ensures
