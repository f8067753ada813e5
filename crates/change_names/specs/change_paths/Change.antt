-- What a change holds.
use Rattle.st_values.specs.View.{program_of}
use Rattle.change_names.specs.Names.{AreNames}
use Rattle.change_names.specs.Side.{IsSide}
use Rattle.shape_trees.specs.Unfolding.{AreShapes}
use Rattle.change_names.specs.declared.change_paths.change.Change.{Change}
use Rattle.change_names.specs.change_paths.Numbers.{AreFieldNumbers}

-- all that it holds is that of its two programs
pub record IsChange (c : Change) : Type 0 where
  pub old_side : IsSide c.old
  pub new_side : IsSide c.new
  pub old_shapes : AreShapes (program_of c.old.program.now) c.old_shapes.now.list
  pub new_shapes : AreShapes (program_of c.new.program.now) c.new_shapes.now.list
  pub names : AreNames (program_of c.old.program.now) (program_of c.new.program.now) c.names.now
  pub old_numbers : AreFieldNumbers (program_of c.old.program.now) c.old_numbers.now
  pub new_numbers : AreFieldNumbers (program_of c.new.program.now) c.new_numbers.now
