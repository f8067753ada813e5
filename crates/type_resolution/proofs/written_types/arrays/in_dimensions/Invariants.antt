use Rattle.std.proofs.Common.{length}
use Rattle.type_resolution.proofs.written_types.ArrayLaws.{DimensionsTo}
use Rattle.type_resolution.proofs.written_types.arrays.in_dimensions.Given as goal

abbrev pub invariant-dimensions : goal.invariant-dimensions
invariant-dimensions l = DimensionsTo l.s l.bounds l.fn.of l.left l.kind

abbrev pub decreases-dimensions : goal.decreases-dimensions
decreases-dimensions l = length l.left
