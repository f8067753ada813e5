-- The limit of operators, one part after the other.
use Rattle.std.proofs.Common.{◌≡◌, ℕ, ◌+◌, ◌<◌, ◌≤◌, List, [], ◌++◌, Option, None, refl, sym, ap, ◌∙◌, drop, get_or, length}
use Rattle.plc_text.specs.declared.code.Code.{Code}
use Rattle.st_tree.specs.declared.expression.Argument.{Argument as CodeArgument}
use Rattle.st_tree.specs.declared.expression.Expr.{Expr}
use Rattle.st_tree.specs.declared.expression.Selector.{Selector as CodeSelector}
use Rattle.st_tree.specs.Expression.{expression_then, expression_of, expressions_of, no_expressions, Selector, Field, Index, Selectors, selector_then, selector_of, selectors_of, no_selectors, Argument, Positional, Input, Output, Arguments, argument_then, argument_of, arguments_of, no_arguments}
use Rattle.st_tree.specs.Expression as tree
use Rattle.st_rules.specs.Faults.{Faults, least, earlier}
use Rattle.st_rules.specs.Expressions.{too_many_operators}
use Rattle.st_rules.specs.Statements.{index_limits, selector_limits, argument_limits}
use Rattle.st_rules.proofs.FaultLaws.{earlier-none}
use Rattle.st_rules.proofs.ListLaws.{drop-at, drop-end}
use Rattle.st_check_body.specs.st_body_parts.Private.Limits.{one_selector_limit, one_argument_limit}
use Rattle.st_check_body.proofs.st_body_parts.Parts.{more_broken}

module _ (x before own w : Option (Code × ℕ)) (a : x ≡ earlier before own) where
  pub index_next : (es : List (Expr ℕ)) (i : ℕ) (e : Expr ℕ) → i < length es → e ≡ get_or es i e → own ≡ least (too_many_operators (expression_of e)) →
      earlier before (least (index_limits (expressions_of (drop i es)))) ≡ w → earlier x (least (index_limits (expressions_of (drop (i + 1) es)))) ≡ w
  index_next es i e h at o p =
      more_broken x before own (too_many_operators (expression_of e)) (index_limits (expressions_of (drop (i + 1) es))) w a o
      (sym (ap (λ ys. earlier before (least (index_limits (expressions_of ys)))) (drop-at es i e h at)) ∙ p)

  selector_split : (y : Selector ℕ) (ss : Selectors ℕ) → selector_limits (selector_then y ss) ≡ one_selector_limit y ++ selector_limits ss
  selector_split (Field l n) ss = refl
  selector_split (Index l es) ss = refl
  selector_split (tree.Target l) ss = refl

  pub selector_next : (ss : List (CodeSelector ℕ)) (i : ℕ) (y : CodeSelector ℕ) → i < length ss → y ≡ get_or ss i y → own ≡ least (one_selector_limit (selector_of y)) →
      earlier before (least (selector_limits (selectors_of (drop i ss)))) ≡ w → earlier x (least (selector_limits (selectors_of (drop (i + 1) ss)))) ≡ w
  selector_next ss i y h at o p =
      more_broken x before own (one_selector_limit (selector_of y)) (selector_limits (selectors_of (drop (i + 1) ss))) w a o
      (ap (λ fs. earlier before (least fs)) (sym (selector_split (selector_of y) (selectors_of (drop (i + 1) ss))))
      ∙ sym (ap (λ ys. earlier before (least (selector_limits (selectors_of ys)))) (drop-at ss i y h at)) ∙ p)

  argument_split : (y : Argument ℕ) (xs : Arguments ℕ) → argument_limits (argument_then y xs) ≡ one_argument_limit y ++ argument_limits xs
  argument_split (Positional e) xs = refl
  argument_split (Input l n e) xs = refl
  argument_split (Output l n k r ss) xs = refl

  pub argument_next : (xs : List (CodeArgument ℕ)) (i : ℕ) (y : CodeArgument ℕ) → i < length xs → y ≡ get_or xs i y → own ≡ least (one_argument_limit (argument_of y)) →
      earlier before (least (argument_limits (arguments_of (drop i xs)))) ≡ w → earlier x (least (argument_limits (arguments_of (drop (i + 1) xs)))) ≡ w
  argument_next xs i y h at o p =
      more_broken x before own (one_argument_limit (argument_of y)) (argument_limits (arguments_of (drop (i + 1) xs))) w a o
      (ap (λ fs. earlier before (least fs)) (sym (argument_split (argument_of y) (arguments_of (drop (i + 1) xs))))
      ∙ sym (ap (λ ys. earlier before (least (argument_limits (arguments_of ys)))) (drop-at xs i y h at)) ∙ p)

module _ (found w : Option (Code × ℕ)) where
  pub index_end : (es : List (Expr ℕ)) (i : ℕ) → length es ≤ i → earlier found (least (index_limits (expressions_of (drop i es)))) ≡ w → found ≡ w
  index_end es i h p = sym (earlier-none found) ∙ sym (ap (λ ys. earlier found (least (index_limits (expressions_of ys)))) (drop-end es i h)) ∙ p

  pub selector_end : (ss : List (CodeSelector ℕ)) (i : ℕ) → length ss ≤ i → earlier found (least (selector_limits (selectors_of (drop i ss)))) ≡ w → found ≡ w
  selector_end ss i h p = sym (earlier-none found) ∙ sym (ap (λ ys. earlier found (least (selector_limits (selectors_of ys)))) (drop-end ss i h)) ∙ p

  pub argument_end : (xs : List (CodeArgument ℕ)) (i : ℕ) → length xs ≤ i → earlier found (least (argument_limits (arguments_of (drop i xs)))) ≡ w → found ≡ w
  argument_end xs i h p = sym (earlier-none found) ∙ sym (ap (λ ys. earlier found (least (argument_limits (arguments_of ys)))) (drop-end xs i h)) ∙ p
