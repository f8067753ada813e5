-- FOR without its body, by parts.
use Rattle.std.specs.Prelude.{ℕ, ◌+◌, List, [], ◌∷◌, ◌++◌, Option, option_map}
use Rattle.st_types.specs.declared.elem.Elem.{Elem}
use Rattle.st_types.specs.declared.st_type.StType.{StType}
use Rattle.st_tree.specs.declared.expression.Expr.{Expr}
use Rattle.st_tree.specs.declared.program.Note.{Note}
use Rattle.st_tree.specs.Expression.{Expression, expression_of}
use Rattle.st_values.specs.Initial.{note_of}
use Rattle.st_meaning.specs.Operation.{elem_of}
use Rattle.stack_code.specs.declared.op.Op.{Op}
use Rattle.stack_code.specs.declared.op.Op.TheVariants as op
use Rattle.code_cells.specs.declared.cell.Cell.{Cell}
use Rattle.code_cells.specs.declared.cell.Cell.TheVariants.{Does as does}
use Rattle.code_rules.specs.Plan.{Plan}
use Rattle.code_rules.specs.Code.{number_kind, value_code}
use Rattle.code_rules.specs.Bodies.{step_code, step_kind}
use Rattle.codegen_body.specs.declared.counting.CountKinds.{CountKinds}

abbrev pub seen_expression : Option (Expr Note) → Option (Expression Note)
seen_expression by = option_map expression_of by

abbrev pub kinds_of : StType → Expression Note → Option (Expression Note) → CountKinds
kinds_of t to by = record { variable = elem_of t; end = number_kind (note_of to).kind; step = step_kind t by }

module _ (line : ℕ) where
  abbrev pub kept_code : ℕ → Elem → List Cell
  kept_code at e = does (op.Local at) line ∷ (does (op.Store e) line ∷ [])

  abbrev pub stored_code : Elem → List Cell → List Cell
  stored_code e place = place ++ does (op.Store e) line ∷ []

  abbrev pub compared_code : ℕ → Elem → Elem → List Cell → Op → List Cell
  compared_code free e to place o = place ++ (does (op.Load e) line ∷ (does (op.Local free) line ∷ (does (op.Load to) line ∷ (does o line ∷ []))))

  abbrev pub raised_code : ℕ → Elem → Elem → List Cell → List Cell
  raised_code step e by place = place ++ (does (op.Load e) line ∷ (does (op.Local step) line ∷ (does (op.Load by) line ∷ (does (op.AddC e) line ∷ []))))

module _ (w : Plan) (line : ℕ) where
  -- the first value stays on top until end and step are kept
  abbrev pub head_code : ℕ → CountKinds → List Cell → Expression Note → Expression Note → Option (Expression Note) → List Cell
  head_code free k place from to by =
      value_code w line free from ++ (value_code w line free to ++ (kept_code line free k.end ++ (step_code w line (free + 8) by ++ (kept_code line (free + 8) k.step ++ stored_code line k.variable place))))
