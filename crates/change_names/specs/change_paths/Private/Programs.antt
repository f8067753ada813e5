-- The two programs of a change.
use Rattle.std.specs.Prelude.{List, Option}
use Rattle.st_values.specs.Program.{Program}
use Rattle.st_values.specs.View.{program_of}
use Rattle.shape_trees.specs.declared.shape.Shape.{Shape as CodeShape}
use Rattle.change_names.specs.declared.change_paths.change.Change.{Change}
use Rattle.change_names.specs.declared.change_paths.numbers.FieldNumbers.{FieldNumbers}
use Rattle.change_names.specs.declared.change_paths.which.Which.{Which}
use Rattle.change_names.specs.declared.change_paths.which.Which.TheVariants as which

abbrev pub program_at : Change → Which → Program
program_at c which.Old = program_of c.old.program.now
program_at c which.New = program_of c.new.program.now

abbrev pub shapes_at : Change → Which → List (Option CodeShape)
shapes_at c which.Old = c.old_shapes.now.list
shapes_at c which.New = c.new_shapes.now.list

abbrev pub numbers_at : Change → Which → FieldNumbers
numbers_at c which.Old = c.old_numbers.now
numbers_at c which.New = c.new_numbers.now

abbrev pub other : Which → Which
other which.Old = which.New
other which.New = which.Old
