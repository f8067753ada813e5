-- One argument of a call after the other, and one branch of a statement.
use Rattle.std.specs.Prelude.{ℕ, ◌+◌, max}
use Rattle.st_tree.specs.declared.program.Note.{Note}
use Rattle.st_tree.specs.Expression.{Expression, Argument, Positional, Input, Output}
use Rattle.st_tree.specs.Statement.{Statements}
use Rattle.st_meaning.specs.Place.{root_note}
use Rattle.st_meaning.specs.st_frame.Use.{last_kind}
use Rattle.code_rules.specs.Places.{room_of}
use Rattle.code_rules.specs.Plan.{Plan}
use Rattle.code_rules.specs.Tops.{along_top, effects_top, value_top}

module _ (w : Plan) where
  abbrev pub argument_top : ℕ → Argument Note → ℕ
  argument_top free (Positional e) = value_top w free e
  argument_top free (Input a name e) = value_top w free e
  argument_top free (Output a name b r ss) = 0

  abbrev pub output_top : ℕ → Argument Note → ℕ
  output_top free (Output a name b r ss) = max (free + room_of w.size_of (last_kind (root_note r).kind ss)) (along_top w (free + room_of w.size_of (last_kind (root_note r).kind ss)) ss)
  output_top free _ = 0

  -- one branch of IF
  abbrev pub branch_top : ℕ → Expression Note → Statements Note → ℕ
  branch_top free e body = max (value_top w free e) (effects_top w free body)
