use Rattle.check_declared_variables.proofs.type_rules.ArrayLaws.{ArraysFrom}
use Rattle.check_declared_variables.proofs.type_rules.arrays.check_arrays.Given as goal

abbrev pub invariant-arrays : goal.invariant-arrays
invariant-arrays l = ArraysFrom l.s l.so_far l.arrays l.fn.inner l.i

abbrev pub decreases-arrays : goal.decreases-arrays
decreases-arrays l = l.i
