use Rattle.std.proofs.Common.{◌+◌, ◌*◌}
use Rattle.st_tree.specs.Initial.{fields_of}
use Rattle.program_tables.proofs.st_initial.WalkLaws.{ElementsLeft, VariablesLeft}
use Rattle.program_tables.proofs.st_initial.region_numbers.+numbers.Given as goal

abbrev pub decreases-push_type : goal.decreases-push_type
decreases-push_type l = 2 * l.depth

abbrev pub decreases-push_array : goal.decreases-push_array
decreases-push_array l = 2 * l.depth + 1

abbrev pub decreases-push_variables : goal.decreases-push_variables
decreases-push_variables l = 2 * l.depth + 1

abbrev pub invariant-push_array-loop-k : goal.invariant-push_array-loop-k
invariant-push_array-loop-k l = ElementsLeft l.members l.depth l.path l.low l.of l.givens.items l.end l.k l.out.items l.initial.out.items

abbrev pub invariant-push_variables-loop-k : goal.invariant-push_variables-loop-k
invariant-push_variables-loop-k l = VariablesLeft l.members l.depth l.path l.variable-items (fields_of l.inits) l.k l.out.items l.initial.out.items
