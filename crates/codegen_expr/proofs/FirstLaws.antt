-- What the first argument tells: the operand of a conversion, and whether it calls nothing.
use Rattle.std.proofs.Common.{◌≡◌, ℕ, Bool, false, List, [], ◌∷◌, ◌++◌, Some, refl, sym, ap, ◌∙◌}
use Rattle.std.specs.Prelude.{slice_get}
use Rattle.st_tree.specs.declared.expression.Argument.{Argument as CodeArgument}
use Rattle.st_tree.specs.declared.expression.Argument.TheVariants as argument
use Rattle.st_tree.specs.declared.expression.Expr.{Expr}
use Rattle.st_tree.specs.declared.expression.Place.{Place as CodePlace}
use Rattle.st_tree.specs.declared.program.Note.{Note}
use Rattle.st_tree.specs.Expression.{Argument, argument_of, argument_of-Positional, argument_of-Input, argument_of-Output, Arguments, argument_then, arguments_of, expression_of}
use Rattle.code_cells.specs.declared.cell.Cell.{Cell}
use Rattle.code_rules.specs.Plan.{Plan}
use Rattle.code_rules.specs.Code.{is_quiet, operand_code, operand_is_quiet, value_code}
use Rattle.codegen_parts.proofs.CodeLaws.{nothing}

-- by what the first argument is seen as
by_first : {A : Type 0} (f : Arguments Note → A) (x : CodeArgument Note) (y : Argument Note) (xs : List (CodeArgument Note)) (b : A) → Some x ≡ slice_get xs 0 → argument_of x ≡ y → ((ys : List (CodeArgument Note)) → b ≡ f (argument_then y (arguments_of ys)))
    → b ≡ f (arguments_of xs)
by_first f x y [] b h q g = cc
by_first f x y (z ∷ zs) b h q g =
    let same : z ≡ x = cc in
    g zs ∙ ap (λ a. f (argument_then a (arguments_of zs))) (sym (ap argument_of same ∙ q))

-- ---- whether the operand calls nothing

pub positional_quiet : (x : CodeArgument Note) (xs : List (CodeArgument Note)) (v : Expr Note) (b : Bool) → Some x ≡ slice_get xs 0 → x ≡ argument.Positional v → b ≡ is_quiet (expression_of v) → b ≡ operand_is_quiet (arguments_of xs)
positional_quiet x xs v b h q e = by_first operand_is_quiet x _ xs b h (ap argument_of q ∙ argument_of-Positional v) (λ ys. e)

pub input_not_quiet : (x : CodeArgument Note) (xs : List (CodeArgument Note)) (a : Note) (name : List ℕ) (v : Expr Note) → Some x ≡ slice_get xs 0 → x ≡ argument.Input a name v → false ≡ operand_is_quiet (arguments_of xs)
input_not_quiet x xs a name v h q = by_first operand_is_quiet x _ xs false h (ap argument_of q ∙ argument_of-Input a name v) (λ ys. refl)

pub output_not_quiet : (x : CodeArgument Note) (xs : List (CodeArgument Note)) (a : Note) (name : List ℕ) (b : Note) (p : CodePlace Note) → Some x ≡ slice_get xs 0 → x ≡ argument.Output a name b p → false ≡ operand_is_quiet (arguments_of xs)
output_not_quiet x xs a name b p h q = by_first operand_is_quiet x _ xs false h (ap argument_of q ∙ argument_of-Output a name b p) (λ ys. refl)

-- ---- the operand's code

module _ (w : Plan) (line free : ℕ) (x : CodeArgument Note) (xs : List (CodeArgument Note)) (old : List Cell) where
  pub positional_operand : (v : Expr Note) (new : List Cell) → Some x ≡ slice_get xs 0 → x ≡ argument.Positional v → new ≡ old ++ value_code w line free (expression_of v) → new ≡ old ++ operand_code w line free (arguments_of xs)
  positional_operand v new h q e =
      e ∙ ap (λ z. old ++ z) (by_first (operand_code w line free) x _ xs (value_code w line free (expression_of v)) h (ap argument_of q ∙ argument_of-Positional v) (λ ys. refl))

  pub input_operand : (a : Note) (name : List ℕ) (v : Expr Note) → Some x ≡ slice_get xs 0 → x ≡ argument.Input a name v → old ≡ old ++ operand_code w line free (arguments_of xs)
  input_operand a name v h q = nothing old ∙ ap (λ z. old ++ z) (by_first (operand_code w line free) x _ xs [] h (ap argument_of q ∙ argument_of-Input a name v) (λ ys. refl))

  pub output_operand : (a : Note) (name : List ℕ) (b : Note) (p : CodePlace Note) → Some x ≡ slice_get xs 0 → x ≡ argument.Output a name b p → old ≡ old ++ operand_code w line free (arguments_of xs)
  output_operand a name b p h q = nothing old ∙ ap (λ z. old ++ z) (by_first (operand_code w line free) x _ xs [] h (ap argument_of q ∙ argument_of-Output a name b p) (λ ys. refl))
