-- Nodes with places in them, by the parts of the place; and nodes that are no place.
use Rattle.std.proofs.Common.{◌≡◌, ℕ, false, List, sym, ap, ◌∙◌}
use Rattle.st_tree.specs.declared.expression.Argument.{Argument as CodeArgument}
use Rattle.st_tree.specs.declared.expression.Argument.TheVariants as argument
use Rattle.st_tree.specs.declared.expression.Expr.{Expr}
use Rattle.st_tree.specs.declared.expression.Expr.TheVariants as code
use Rattle.st_tree.specs.declared.expression.Place.{Place as CodePlace}
use Rattle.st_tree.specs.declared.expression.Root.{Root}
use Rattle.st_tree.specs.Expression.{Expression, Place, Ref, Call, Output, Selectors, selectors_of, place_of-is, arguments_of, expression_of, expression_of-Place, expression_of-Ref, expression_of-Call, argument_of, argument_of-Output}
use Rattle.st_rules.specs.Scope.{Scope}
use Rattle.st_rules.specs.Calls.{is_bindable_place}

module _ (l : ℕ) (p : CodePlace ℕ) where
  pub place_is : expression_of (code.Place l p) ≡ Place l p.root (selectors_of p.selectors)
  place_is = expression_of-Place l p ∙ ap (λ (q : Root ℕ × Selectors ℕ). Place l q.0 q.1) (place_of-is p)

  pub ref_is : expression_of (code.Ref l p) ≡ Ref l p.root (selectors_of p.selectors)
  ref_is = expression_of-Ref l p ∙ ap (λ (q : Root ℕ × Selectors ℕ). Ref l q.0 q.1) (place_of-is p)

  pub call_is : (xs : List (CodeArgument ℕ)) → expression_of (code.Call l p xs) ≡ Call l p.root (selectors_of p.selectors) (arguments_of xs)
  call_is xs = expression_of-Call l p xs ∙ ap (λ (q : Root ℕ × Selectors ℕ). Call l q.0 q.1 (arguments_of xs)) (place_of-is p)

  pub output_is : (name : List ℕ) (k : ℕ) → argument_of (argument.Output l name k p) ≡ Output l name k p.root (selectors_of p.selectors)
  output_is name k = argument_of-Output l name k p ∙ ap (λ (q : Root ℕ × Selectors ℕ). Output l name k q.0 q.1) (place_of-is p)

pub no_place : (s : Scope) (e : Expr ℕ) (x : Expression ℕ) → expression_of e ≡ x → is_bindable_place s x ≡ false → false ≡ is_bindable_place s (expression_of e)
no_place s e x h k = sym (ap (λ (y : Expression ℕ). is_bindable_place s y) h ∙ k)
