use Rattle.std.proofs.Common.{length}
use Rattle.shape_trees.proofs.parts.+shape_at.Given as goal

abbrev pub decreases-shape_at : goal.decreases-shape_at
decreases-shape_at l = length l.steps.now
