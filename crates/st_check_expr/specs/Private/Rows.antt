-- Rows of operators: what is still to come, and the operand that is checked ahead of its turn.
use Rattle.std.specs.Prelude.{◌≡◌, ℕ, Bool, true, if◌then◌else◌, List, [], ◌∷◌, map, Option, Some, None, MatchOption}
use Rattle.plc_text.specs.declared.code.Code.{Code}
use Rattle.st_types.specs.declared.st_type.StType.{StType}
use Rattle.st_tree.specs.declared.expression.Operator.{Operator}
use Rattle.st_tree.specs.declared.program.Note.{Note}
use Rattle.st_tree.specs.Expression.{Expression, Tails, no_tails, tail_then, tail_of, expression_of}
use Rattle.st_rules.specs.declared.asked.Asked.{Asked}
use Rattle.st_rules.specs.declared.asked.Asked.TheVariants.{Anything}
use Rattle.st_rules.specs.Faults.{least, earlier}
use Rattle.st_rules.specs.Literals.{number_asked}
use Rattle.st_rules.specs.Scope.{Scope}
use Rattle.st_rules.specs.Expressions.{is_untyped, front_asked, asked_behind, row_type, row_faults, typed_row}
use Rattle.check_nodes.specs.declared.found.Checked.{Checked}
use Rattle.check_nodes.specs.declared.rows.Row.{Row}
use Rattle.check_nodes.specs.declared.rows.Ahead.{Ahead}
use Rattle.check_nodes.specs.Found.{Checks}
use Rattle.st_check_expr.specs.declared.walk.RowSoFar.{RowSoFar}

-- ---- the operand that is checked ahead

-- the first operand behind an operator that has a type of its own
abbrev pub first_typed : Tails ℕ → Option (Expression ℕ)
first_typed no_tails = None
first_typed (tail_then l o e ts) = if is_untyped e then first_typed ts else Some e

-- what is kept is that operand, checked
pub record Keeps (kept : Option Checked) (s : Scope) (ts : Tails ℕ) : Type 0 where
  pub checks : (c : Checked) (e : Expression ℕ) → kept ≡ Some c → first_typed ts ≡ Some e → Checks c s Anything e

-- ---- the look ahead

-- what is looked for ahead: what the front is asked for, where operands of it are behind or not, and the operand that ends it
unfoldable pub ahead_rest : Scope → Bool → Asked → Tails ℕ → Asked × Option (Expression ℕ)
ahead_rest s passed asked ts = ((if passed then number_asked (asked_behind s asked ts) else asked_behind s asked ts), (first_typed ts))

-- the front goes on behind this operand
pub record GoesOn (s : Scope) (l : ℕ) (o : Operator) (e : Expression ℕ) : Type 0 where
  pub rest : (passed : Bool) (asked : Asked) (ts : Tails ℕ) → ahead_rest s true asked ts ≡ ahead_rest s passed asked (tail_then l o e ts)

-- it ends here
pub record EndsAt (s : Scope) (l : ℕ) (o : Operator) (e : Expression ℕ) (a : Ahead) : Type 0 where
  pub wanted : (asked : Asked) (ts : Tails ℕ) → a.asked ≡ asked_behind s asked (tail_then l o e ts)
  pub keeps : (ts : Tails ℕ) → Keeps a.kept s (tail_then l o e ts)

abbrev pub StepsAhead : Option Ahead → Scope → ℕ → Operator → Expression ℕ → Type 0
StepsAhead r s l o e = MatchOption r (GoesOn s l o e) (λ a. EndsAt s l o e a)

pub record LooksAhead (a : Ahead) (s : Scope) (untyped : Bool) (asked : Asked) (ts : Tails ℕ) : Type 0 where
  pub wanted : a.asked ≡ front_asked untyped (asked_behind s asked ts)
  pub keeps : Keeps a.kept s ts

-- ---- the row

-- operators and operands before others
abbrev pub tails_onto : List (Note × Operator × Expression Note) → Tails Note → Tails Note
tails_onto [] rest = rest
tails_onto (t ∷ ts) rest = tail_then t.0 t.1 t.2 (tails_onto ts rest)

-- what a row gives with all that is still to come: its type, the least rule that it breaks, and its typed tree
abbrev pub Whole : Type 0
Whole = Option StType × Option (Code × ℕ) × Expression Note × Tails Note

unfoldable pub row_rest : Scope → Asked → Row → Tails ℕ → Whole
row_rest s asked r ts = (
  (row_type s r.untyped asked r.told ts),
  (earlier r.least (least (row_faults s r.untyped asked r.told ts))),
  (expression_of r.first),
  (tails_onto (map tail_of r.tails) (typed_row s r.untyped asked r.told ts)),
)

-- one operand more leaves the whole as it is
pub record RowGoes (s : Scope) (asked : Asked) (before x : RowSoFar) (l : ℕ) (o : Operator) (e : Expression ℕ) : Type 0 where
  pub whole : (ts : Tails ℕ) → Keeps before.kept s (tail_then l o e ts) → row_rest s asked x.row ts ≡ row_rest s asked before.row (tail_then l o e ts)
  pub keeps : (ts : Tails ℕ) → Keeps before.kept s (tail_then l o e ts) → Keeps x.kept s ts
