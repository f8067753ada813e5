use Rattle.check_declared_variables.proofs.type_rules.DimensionLaws.{DimensionsFrom}
use Rattle.check_declared_variables.proofs.type_rules.dimensions.check_dimensions.Given as goal

abbrev pub invariant-dimensions : goal.invariant-dimensions
invariant-dimensions l = DimensionsFrom l.s l.so_far l.bounds l.fn.inner l.i

abbrev pub decreases-dimensions : goal.decreases-dimensions
decreases-dimensions l = l.i
