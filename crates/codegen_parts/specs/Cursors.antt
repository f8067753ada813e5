-- The arguments of a call, one behind the other.
use Rattle.std.specs.Prelude.{◌≡◌, List}
use Rattle.st_tree.specs.declared.program.Note.{Note}
use Rattle.st_tree.specs.Expression.{Argument}
use Rattle.st_values.specs.Program.{Parameter}
use Rattle.routine_tables.specs.Parameters.{parameters_of}
use Rattle.code_rules.specs.Plan.{Plan}
use Rattle.codegen_parts.specs.declared.calls.Cursor.{Cursor}
use Rattle.codegen_parts.specs.Steps.{free_behind, left_behind, number_behind}

-- what is left behind an argument, where so much was left before it
pub record IsBehind (w : Plan) (ps : List Parameter) (x : Argument Note) (before after : Cursor) : Type 0 where
  pub number : after.number ≡ number_behind before.number (parameters_of before.left.now) x
  pub left : parameters_of after.left.now ≡ left_behind (parameters_of before.left.now) x
  pub free : after.free ≡ free_behind w before.free ps (parameters_of before.left.now) x
