use Rattle.std.proofs.Common.{◌≡◌, length}
use Rattle.st_tree.specs.Expression.{selectors_of}
use Rattle.st_rules.specs.Calls.{is_direct}
use Rattle.check_calls.proofs.callee.is_direct.Given as goal

abbrev pub invariant-selectors : goal.invariant-selectors
invariant-selectors l = is_direct (selectors_of l.left) ≡ is_direct (selectors_of l.selectors)

abbrev pub decreases-selectors : goal.decreases-selectors
decreases-selectors l = length l.left
