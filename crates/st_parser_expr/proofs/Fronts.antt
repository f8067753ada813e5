-- A phrase takes a front of the lexemes, whatever stands behind it.
use Rattle.std.proofs.Common.{◌≡◌, ℕ, suc, List, [], ◌∷◌, ◌++◌, Some, refl, sym, ◌∙◌, ap, subst, append_assoc}
use Rattle.st_types.specs.declared.elem.Elem.TheVariants as kind
use Rattle.st_tree.specs.declared.terminal.Terminal.{Terminal}
use Rattle.st_tree.specs.declared.terminal.Terminal.TheVariants as x
use Rattle.st_tree.specs.declared.expression.Operator.{Operator}
use Rattle.st_tree.specs.declared.expression.Literal.{Literal}
use Rattle.st_tree.specs.declared.expression.Literal.TheVariants as literals
use Rattle.st_tree.specs.declared.expression.Root.{Root}
use Rattle.st_tree.specs.declared.expression.Root.TheVariants as roots
use Rattle.st_tree.specs.Expression as expr
use Rattle.st_tree.specs.Expression.{Expression, Expressions, no_expressions, expression_then, Selector, Selectors, no_selectors, selector_then, Argument, Arguments, no_arguments, argument_then, Tails, no_tails, tail_then}
use Rattle.st_tree.specs.Grammar.{Lexeme, Phrase, ◌⋆◌, nothing, never, lexeme, sign, spelled, word, At, at, SameLine, operator_of, level, operator_at, some_level, literal, root, expression, first_tail, tails, selectors, selector, first_expression, more_expressions, arguments, more_arguments, argument}

pub record Front (P : Phrase) (ts rest : List Lexeme) : Type 0 where
  pub tokens : List Lexeme
  pub whole : ts ≡ tokens ++ rest
  pub moved : (r : List Lexeme) → P (tokens ++ r) r

abbrev pub IsFront : Phrase → Type 0
IsFront P = (ts rest : List Lexeme) → P ts rest → Front P ts rest

-- a front of one lexeme or more
pub record Head (P : Phrase) (ts rest : List Lexeme) : Type 0 where
  pub token : Lexeme
  pub more : List Lexeme
  pub whole : ts ≡ token ∷ (more ++ rest)
  pub moved : (r : List Lexeme) → P (token ∷ (more ++ r)) r

abbrev pub IsHead : Phrase → Type 0
IsHead P = (ts rest : List Lexeme) → P ts rest → Head P ts rest

pub front : (P : Phrase) → IsHead P → IsFront P
front P p ts rest h = let a = p ts rest h in record { tokens = a.token ∷ a.more; whole = a.whole; moved = a.moved }

pub then_front : (P Q : Phrase) → IsHead P → IsFront Q → IsHead (P ⋆ Q)
then_front P Q p q ts rest (m, hp, hq) =
    let a = p ts m hp in
    let b = q m rest hq in
    record {
      token = a.token;
      more = a.more ++ b.tokens;
      whole = a.whole ∙ ap (λ u. a.token ∷ (a.more ++ u)) b.whole ∙ ap (λ u. a.token ∷ u) (sym (append_assoc a.more b.tokens rest));
      moved = λ r. (b.tokens ++ r, rw append_assoc (a.moved (b.tokens ++ r)), b.moved r);
    }

pub both_fronts : (P Q : Phrase) → IsFront P → IsFront Q → IsFront (P ⋆ Q)
both_fronts P Q p q ts rest (m, hp, hq) =
    let a = p ts m hp in
    let b = q m rest hq in
    record {
      tokens = a.tokens ++ b.tokens;
      whole = a.whole ∙ ap (λ u. a.tokens ++ u) b.whole ∙ sym (append_assoc a.tokens b.tokens rest);
      moved = λ r. (b.tokens ++ r, rw append_assoc (a.moved (b.tokens ++ r)), b.moved r);
    }

-- two heads
pub then_head : (P Q : Phrase) → IsHead P → IsHead Q → IsHead (P ⋆ Q)
then_head P Q p q = then_front P Q p (front Q q)

pub of_nothing : IsFront nothing
of_nothing ts rest h = record { tokens = []; whole = h; moved = λ r. refl }

pub of_never : IsHead never
of_never ts rest h = absurd h

pub of_lexeme : (P : Lexeme → Type 0) → IsHead (lexeme P)
of_lexeme P ts rest (t, p, w) = record { token = t; more = []; whole = w; moved = λ r. (t, p, refl) }

pub of_at : (line : ℕ) (P : Phrase) → IsHead P → IsHead (at line P)
of_at line P p ts rest (a, h) =
    let b = p ts rest h in
    record { token = b.token; more = b.more; whole = b.whole; moved = λ r. (subst (At line) b.whole a, b.moved r) }

of_same : (line row : ℕ) (P : Phrase) → IsHead P → IsHead (SameLine line row P)
of_same line row P p ts rest (same, h) =
    let b = p ts rest h in
    record { token = b.token; more = b.more; whole = b.whole; moved = λ r. (same, b.moved r) }

of_level : (l : ℕ) (P : ℕ → Phrase) → ((j : ℕ) → IsHead (P j)) → IsHead (some_level l P)
of_level l P p ts rest (j, lower, upper, h) =
    let a = p j ts rest h in
    record { token = a.token; more = a.more; whole = a.whole; moved = λ r. (j, lower, upper, a.moved r) }

pub of_sign : (s : Terminal) → IsHead (sign s)
of_sign s = of_lexeme (λ t. t.terminal ≡ s)

pub of_spelled : (s : Terminal) (n : List ℕ) → IsHead (spelled s n)
of_spelled s n = of_lexeme (λ t. (t.terminal ≡ s) × (t.text ≡ n))

of_operator : (j : ℕ) (p : Operator) → IsHead (operator_at j p)
of_operator j p = of_lexeme (λ t. (operator_of t.terminal ≡ Some p) × (level p ≡ j))

pub of_literal : (v : Literal) → IsHead (literal v)
of_literal (literals.Int n) = of_spelled x.Int n
of_literal (literals.Negative n) = then_head (sign x.Minus) (spelled x.Int n) (of_sign x.Minus) (of_spelled x.Int n)
of_literal literals.True = of_sign x.True
of_literal literals.False = of_sign x.False

pub of_root : (r : Root ℕ) → IsHead (root r)
of_root (roots.Name line n) = of_at line (word n) (of_spelled x.Word n)
of_root (roots.This line) = of_at line (sign x.This) (of_sign x.This)
of_root (roots.Super line) = of_at line (sign x.Super) (of_sign x.Super)

mutual
  pub of_expression : (e : Expression ℕ) (l : ℕ) → IsHead (expression e l)
  of_expression (expr.Int line n) l = of_at line _ (of_spelled x.Int n)
  of_expression (expr.Typed line k v) l = of_at line _ (then_head _ _ (of_sign (x.Kind k)) (then_head _ _ (of_sign x.Hash) (of_literal v)))
  of_expression (expr.Time line n) l = of_at line _ (of_spelled x.Duration n)
  of_expression (expr.True line) l = of_at line _ (of_sign x.True)
  of_expression (expr.False line) l = of_at line _ (of_sign x.False)
  of_expression (expr.Null line) l = of_at line _ (of_sign x.Null)
  of_expression (expr.Place line r s) l = of_at line _ (then_front _ _ (of_root r) (of_selectors s))
  of_expression (expr.Call line r s xs) l =
      of_at line _ (then_front _ _ (of_root r) (both_fronts _ _ (of_selectors s) (front _ (then_front _ _ (of_sign x.Open) (both_fronts _ _ (of_arguments xs) (front _ (of_sign x.Close)))))))
  of_expression (expr.Enumerator line t later n) l = of_at line _ (then_head _ _ (of_spelled x.Word t) (then_head _ _ (of_sign x.Hash) (of_at later _ (of_spelled x.Word n))))
  of_expression (expr.Ref line r s) l =
      of_at line _ (then_head _ _ (of_sign x.Ref) (then_head _ _ (of_sign x.Open) (then_front _ _ (of_root r) (both_fronts _ _ (of_selectors s) (front _ (of_sign x.Close))))))
  of_expression (expr.Now line) l = of_at line _ (then_head _ _ (of_sign (x.Kind kind.Time)) (then_head _ _ (of_sign x.Open) (of_sign x.Close)))
  of_expression (expr.Paren line e) l = of_at line _ (then_head _ _ (of_sign x.Open) (then_head _ _ (of_expression e 0) (of_sign x.Close)))
  of_expression (expr.Not line e) l = of_at line _ (then_head _ _ (of_sign x.Not) (of_expression e 7))
  of_expression (expr.Negate line e) l = of_at line _ (then_head _ _ (of_sign x.Minus) (of_expression e 7))
  of_expression (expr.Chain line e t) l =
      of_at line _ (of_level l (λ j. expression e (suc j) ⋆ first_tail t line j) (λ j. then_head _ _ (of_expression e (suc j)) (of_first_tail t line j)))

  of_first_tail : (t : Tails ℕ) (row j : ℕ) → IsHead (first_tail t row j)
  of_first_tail no_tails row j = of_never
  of_first_tail (tail_then line p e t) row j = of_same line row _ (then_front _ _ (of_operator j p) (both_fronts _ _ (front _ (of_expression e (suc j))) (of_tails t row j)))

  of_tails : (t : Tails ℕ) (row j : ℕ) → IsFront (tails t row j)
  of_tails no_tails row j = of_nothing
  of_tails (tail_then line p e t) row j = front _ (of_same line row _ (then_front _ _ (of_operator j p) (both_fronts _ _ (front _ (of_expression e (suc j))) (of_tails t row j))))

  pub of_selectors : (s : Selectors ℕ) → IsFront (selectors s)
  of_selectors no_selectors = of_nothing
  of_selectors (selector_then s ss) = front _ (then_front _ _ (of_selector s) (of_selectors ss))

  of_selector : (s : Selector ℕ) → IsHead (selector s)
  of_selector (expr.Field line n) = then_head _ _ (of_sign x.Dot) (of_at line _ (of_spelled x.Word n))
  of_selector (expr.Index line es) = of_at line _ (then_front _ _ (of_sign x.OpenBracket) (both_fronts _ _ (of_first es) (front _ (of_sign x.CloseBracket))))
  of_selector (expr.Target line) = of_at line _ (of_sign x.Caret)

  of_first : (es : Expressions ℕ) → IsFront (first_expression es)
  of_first no_expressions = front _ of_never
  of_first (expression_then e es) = front _ (then_front _ _ (of_expression e 0) (of_more es))

  of_more : (es : Expressions ℕ) → IsFront (more_expressions es)
  of_more no_expressions = of_nothing
  of_more (expression_then e es) = front _ (then_front _ _ (of_sign x.Comma) (both_fronts _ _ (front _ (of_expression e 0)) (of_more es)))

  pub of_arguments : (xs : Arguments ℕ) → IsFront (arguments xs)
  of_arguments no_arguments = of_nothing
  of_arguments (argument_then a xs) = front _ (then_front _ _ (of_argument a) (of_more_arguments xs))

  of_more_arguments : (xs : Arguments ℕ) → IsFront (more_arguments xs)
  of_more_arguments no_arguments = of_nothing
  of_more_arguments (argument_then a xs) = front _ (then_front _ _ (of_sign x.Comma) (both_fronts _ _ (front _ (of_argument a)) (of_more_arguments xs)))

  of_argument : (a : Argument ℕ) → IsHead (argument a)
  of_argument (expr.Positional e) = of_expression e 0
  of_argument (expr.Input line n e) = then_head _ _ (of_at line _ (of_spelled x.Word n)) (then_head _ _ (of_sign x.Assign) (of_expression e 0))
  of_argument (expr.Output line n later r s) =
      then_head _ _ (of_at line _ (of_spelled x.Word n)) (then_head _ _ (of_sign x.Sends) (of_at later _ (then_front _ _ (of_root r) (of_selectors s))))
