-- What the parser of expressions answers: the longest expression, or why there is none, with the limit on nesting.
use Rattle.std.specs.Prelude.{ℕ, ◌+◌, ◌-◌, ◌≤◌, List, [], take}
use Rattle.st_tree.specs.Expression.{Expression}
use Rattle.st_tree.specs.Grammar.{Lexeme, expression}
use Rattle.st_tree.specs.Nesting.{NoneDeep, FirstDeep}
use Rattle.st_tree.specs.Beginnings.{Language, Begins, StopsAt}
use Rattle.st_parser_expr.specs.declared.stop.ParseError.{ParseError}
use Rattle.st_parser_expr.specs.declared.stop.ParseError.TheVariants as error

-- the lexemes spell the expression
abbrev pub Spells : List Lexeme → Expression ℕ → Type 0
Spells ts e = expression e 0 ts []

abbrev pub IsExpression : Language
IsExpression ts = (e : Expression ℕ) × Spells ts e

-- the lexemes stand from `start` on; those up to `end` are the expression, and no longer ones begin one
pub record Parsed (ts : List Lexeme) (start end : ℕ) (e : Expression ℕ) : Type 0 where
  pub starts : start ≤ end
  pub stops : StopsAt IsExpression ts (end - start)
  pub spelled : Spells (take (end - start) ts) e

-- the lexemes stand from `start` on; they stop at p, and those before it are no expression
pub record Refused (ts : List Lexeme) (start p : ℕ) : Type 0 where
  pub starts : start ≤ p
  pub stops : StopsAt IsExpression ts (p - start)
  pub none : (e : Expression ℕ) → Spells (take (p - start) ts) e → ⊥

-- the answer where an expression ends: no lexeme before its end is too deep
pub record ParsedNoneDeep (ts : List Lexeme) (start end : ℕ) (e : Expression ℕ) : Type 0 where
  pub parsed : Parsed ts start end e
  pub none_deep : NoneDeep ts (end - start)

pub record RefusedNoneDeep (ts : List Lexeme) (start p : ℕ) : Type 0 where
  pub refused : Refused ts start p
  pub none_deep : NoneDeep ts (p - start)

pub record DeepAt (ts : List Lexeme) (start q : ℕ) : Type 0 where
  pub starts : start ≤ q
  pub first : FirstDeep ts (q - start)

-- the first lexeme of nesting 65, with which an expression still begins
pub record TooDeep (ts : List Lexeme) (start q : ℕ) : Type 0 where
  pub starts : start ≤ q
  pub first : FirstDeep ts (q - start)
  pub begins : Begins IsExpression (take (q - start + 1) ts)

-- why no expression was read
abbrev pub HasCause : List Lexeme → ℕ → ParseError → Type 0
HasCause ts start (error.Syntax p) = RefusedNoneDeep ts start p
HasCause ts start (error.TooDeep q) = TooDeep ts start q
HasCause ts start error.NoMemory = Unit {0}
