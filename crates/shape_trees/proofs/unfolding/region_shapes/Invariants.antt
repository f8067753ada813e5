use Rattle.shape_trees.proofs.RegionLaws.{ShapesSoFar}
use Rattle.shape_trees.proofs.unfolding.region_shapes.Given as goal

abbrev pub invariant-loop-decl : goal.invariant-loop-decl
invariant-loop-decl l = ShapesSoFar l.program l.decl-index l.all
