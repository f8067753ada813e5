-- The level of the operator that comes first.
use Rattle.std.specs.Prelude.{◌≡◌, ℕ, List, [], ◌∷◌, Some}
use Rattle.st_tree.specs.declared.expression.Operator.{Operator}
use Rattle.st_tree.specs.Grammar.{Lexeme, operator_of, level}

-- the first lexeme is an operator of this level
abbrev pub LevelNext : ℕ → List Lexeme → Type 0
LevelNext l [] = ⊥
LevelNext l (t ∷ ts) = (p : Operator) × ((operator_of t.terminal ≡ Some p) × (level p ≡ l))
