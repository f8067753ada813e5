use Rattle.std.proofs.Common.{◌+◌, ◌*◌}
use Rattle.st_values.specs.Shape.{shape_within}
use Rattle.st_values.specs.View.{program_of}
use Rattle.shape_trees.proofs.UnfoldLaws.{FieldsLeft}
use Rattle.shape_trees.proofs.unfolding.+unfolding.Given as goal

abbrev pub decreases-unfold : goal.decreases-unfold
decreases-unfold l = 3 * l.depth

abbrev pub decreases-unfold_array : goal.decreases-unfold_array
decreases-unfold_array l = 3 * l.depth + 1

abbrev pub decreases-unfold_structure : goal.decreases-unfold_structure
decreases-unfold_structure l = 3 * l.depth + 2

abbrev pub decreases-unfold_instance : goal.decreases-unfold_instance
decreases-unfold_instance l = 3 * l.depth + 2

abbrev pub decreases-unfold_fields : goal.decreases-unfold_fields
decreases-unfold_fields l = 3 * l.depth + 1

abbrev pub invariant-unfold_fields-loop-variable : goal.invariant-unfold_fields-loop-variable
invariant-unfold_fields-loop-variable l = FieldsLeft (program_of l.program) (shape_within (program_of l.program) l.depth) l.variable-items l.variable-index l.fields
