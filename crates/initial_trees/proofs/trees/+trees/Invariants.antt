use Rattle.std.proofs.Common.{◌+◌, ◌*◌}
use Rattle.st_tree.specs.Initial.{fields_of}
use Rattle.st_values.specs.View.{program_of}
use Rattle.program_tables.specs.st_initial.Given.{inits_of}
use Rattle.initial_trees.proofs.ListLaws.{MembersLeft, ElementsLeft}
use Rattle.initial_trees.proofs.trees.+trees.Given as goal

abbrev pub decreases-value_within : goal.decreases-value_within
decreases-value_within l = 4 * l.depth

abbrev pub decreases-array_within : goal.decreases-array_within
decreases-array_within l = 4 * l.depth + 3

abbrev pub decreases-elements_within : goal.decreases-elements_within
decreases-elements_within l = 4 * l.depth + 2

abbrev pub decreases-structure_within : goal.decreases-structure_within
decreases-structure_within l = 4 * l.depth + 3

abbrev pub decreases-instance_within : goal.decreases-instance_within
decreases-instance_within l = 4 * l.depth + 3

abbrev pub decreases-members_within : goal.decreases-members_within
decreases-members_within l = 4 * l.depth + 2

abbrev pub decreases-members_by : goal.decreases-members_by
decreases-members_by l = 4 * l.depth + 1

abbrev pub invariant-elements_within-loop-k : goal.invariant-elements_within-loop-k
invariant-elements_within-loop-k l = ElementsLeft (program_of l.program) l.depth l.of (inits_of l.givens) l.end l.k l.found

abbrev pub invariant-members_by-loop-variable : goal.invariant-members_by-loop-variable
invariant-members_by-loop-variable l = MembersLeft (program_of l.program) l.depth l.variables (fields_of l.inits) l.variable-index l.found
