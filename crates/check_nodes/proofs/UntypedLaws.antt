-- Rows that are untyped, and rows that are not.
use Rattle.std.proofs.Common.{◌≡◌, ℕ, Bool, true, false, List, sym, ap, ◌∙◌}
use Rattle.std.specs.Prelude.{◌&&◌}
use Rattle.st_tree.specs.declared.expression.Expr.{Expr}
use Rattle.st_tree.specs.declared.expression.Expr.TheVariants as code
use Rattle.st_tree.specs.declared.expression.Operator.{Operator}
use Rattle.st_tree.specs.declared.expression.Tail.{Tail}
use Rattle.st_tree.specs.Expression.{Expression, expression_of, expression_of-Chain, tails_of, tail_of, tail_of-is}
use Rattle.st_rules.specs.Kinds.{is_arithmetic}
use Rattle.st_rules.specs.Expressions.{is_untyped, are_untyped}

module _ (e : Expr ℕ) (l : ℕ) (first f : Expr ℕ) (ts : List (Tail ℕ)) (h : e ≡ code.Chain l first ts) (p : f ≡ first) where
  chain_is : is_untyped (expression_of e) ≡ (is_untyped (expression_of f) && are_untyped (tails_of ts))
  chain_is = ap (λ (x : Expression ℕ). is_untyped x) (ap expression_of (h ∙ ap (λ (y : Expr ℕ). code.Chain l y ts) (sym p)) ∙ expression_of-Chain l f ts)

  pub chain_typed : (u : Bool) → u ≡ is_untyped (expression_of f) → u ≡ false → false ≡ is_untyped (expression_of e)
  chain_typed u w k = sym (chain_is ∙ ap (λ (v : Bool). v && are_untyped (tails_of ts)) (sym w ∙ k))

  pub chain_untyped : (us : List (Tail ℕ)) (u : Bool) → u ≡ is_untyped (expression_of f) → u ≡ true → us ≡ ts → (b : Bool) → b ≡ are_untyped (tails_of us) → b ≡ is_untyped (expression_of e)
  chain_untyped us u w k q b g =
      g ∙ ap (λ (xs : List (Tail ℕ)). are_untyped (tails_of xs)) q
      ∙ sym (chain_is ∙ ap (λ (v : Bool). v && are_untyped (tails_of ts)) (sym w ∙ k))

module _ (t : Tail ℕ) where
  tail_is : (is_arithmetic (tail_of t).1 && is_untyped (tail_of t).2) ≡ (is_arithmetic t.operator && is_untyped (expression_of t.operand))
  tail_is = ap (λ (q : ℕ × Operator × Expression ℕ). is_arithmetic q.1 && is_untyped q.2) (tail_of-is t)

  pub tail_typed : (n : Bool) → n ≡ is_arithmetic t.operator → n ≡ false → false ≡ (is_arithmetic (tail_of t).1 && is_untyped (tail_of t).2)
  tail_typed n w k = sym (tail_is ∙ ap (λ (v : Bool). v && is_untyped (expression_of t.operand)) (sym w ∙ k))

  pub tail_untyped : (n : Bool) → n ≡ is_arithmetic t.operator → n ≡ true → (b : Bool) → b ≡ is_untyped (expression_of t.operand) → b ≡ (is_arithmetic (tail_of t).1 && is_untyped (tail_of t).2)
  tail_untyped n w k b g = g ∙ sym (tail_is ∙ ap (λ (v : Bool). v && is_untyped (expression_of t.operand)) (sym w ∙ k))
