-- The limit of operators, part by part.
use Rattle.std.specs.Prelude.{ℕ, []}
use Rattle.st_tree.specs.Expression.{Selector, Field, Index, Argument, Positional, Input, Output}
use Rattle.st_tree.specs.Expression as tree
use Rattle.st_rules.specs.Faults.{Faults}
use Rattle.st_rules.specs.Expressions.{too_many_operators}
use Rattle.st_rules.specs.Statements.{index_limits, selector_limits}

abbrev pub one_selector_limit : Selector ℕ → Faults
one_selector_limit (Index l es) = index_limits es
one_selector_limit (Field l n) = []
one_selector_limit (tree.Target l) = []

abbrev pub one_argument_limit : Argument ℕ → Faults
one_argument_limit (Positional e) = too_many_operators e
one_argument_limit (Input l n e) = too_many_operators e
one_argument_limit (Output l n k r ss) = selector_limits ss
