-- Counting the operators of an expression against a limit.
use Rattle.std.specs.Prelude.{◌≡◌, ◌<◌, ◌+◌, ℕ, Option, MatchOption}
use Rattle.st_tree.specs.Expression.{Selector, Field, Index, Argument, Positional, Input, Output}
use Rattle.st_tree.specs.Expression as tree
use Rattle.st_rules.specs.Expressions.{operators, index_operators, selector_operators}

-- what is left of the room behind so many; nothing where there are more
abbrev pub Leaves : Option ℕ → ℕ → ℕ → Type 0
Leaves left room count = MatchOption left (room < count) (λ n. n + count ≡ room)

abbrev pub selector_count : Selector ℕ → ℕ
selector_count (Field a n) = 0
selector_count (Index a es) = index_operators es
selector_count (tree.Target a) = 0

abbrev pub argument_count : Argument ℕ → ℕ
argument_count (Positional e) = operators e
argument_count (Input a n e) = operators e
argument_count (Output a n b r ss) = selector_operators ss
