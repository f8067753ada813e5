use Rattle.std.proofs.Common.{◌≡◌, length}
use Rattle.st_tree.specs.Expression.{selectors_of}
use Rattle.st_rules.specs.Calls.{callee_along}
use Rattle.check_places.specs.Standing.{standing}
use Rattle.check_calls.proofs.callee.callee_along.Given as goal

-- the selectors that are left lead where all do
abbrev pub invariant-selectors : goal.invariant-selectors
invariant-selectors l = callee_along l.s l.root (standing l.at) (selectors_of l.left) ≡ callee_along l.s l.root (standing l.b) (selectors_of l.selectors)

abbrev pub decreases-selectors : goal.decreases-selectors
decreases-selectors l = length l.left
