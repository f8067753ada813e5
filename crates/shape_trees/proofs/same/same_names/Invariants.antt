use Rattle.std.proofs.Common.{◌≡◌, length}
use Rattle.st_values.specs.Shape.{same_names}
use Rattle.st_values.specs.View.{texts}
use Rattle.shape_trees.proofs.same.same_names.Given as goal

abbrev pub invariant-names : goal.invariant-names
invariant-names l = same_names (texts l.left) (texts l.right) ≡ same_names (texts l.a) (texts l.b)

abbrev pub decreases-names : goal.decreases-names
decreases-names l = length l.left
