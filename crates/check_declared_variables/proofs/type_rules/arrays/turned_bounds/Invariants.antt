use Rattle.std.proofs.Common.{◌≡◌, ◌++◌, length, reverse}
use Rattle.check_declared_variables.proofs.type_rules.arrays.turned_bounds.Given as goal

-- what was taken, and what is left the other way round, is the whole
abbrev pub invariant-items : goal.invariant-items
invariant-items l = l.items ++ reverse l.left.items ≡ reverse l.fn.list.items

abbrev pub decreases-items : goal.decreases-items
decreases-items l = length l.left.items
