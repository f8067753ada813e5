use Rattle.std.proofs.Common.{length}
use Rattle.type_resolution.proofs.written_types.ArrayLaws.{ArraysTo}
use Rattle.type_resolution.proofs.written_types.arrays.in_arrays.Given as goal

abbrev pub invariant-arrays : goal.invariant-arrays
invariant-arrays l = ArraysTo l.s l.arrays l.fn.of l.left l.kind

abbrev pub decreases-arrays : goal.decreases-arrays
decreases-arrays l = length l.left
