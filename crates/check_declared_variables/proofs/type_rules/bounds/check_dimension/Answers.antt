use Rattle.check_declared_variables.proofs.type_rules.BoundLaws.{dimension_checks}
use Rattle.check_declared_variables.proofs.type_rules.bounds.check_dimension.Goals as goal

pub returns : goal.returns
returns c = dimension_checks _ _ _ _ _ _ c.line_of.ensures c.in_ok-low.ensures c.in_ok-high.ensures c.dimension_of.ensures
