use Rattle.std.proofs.Common.{◌≡◌, length}
use Rattle.st_tree.specs.Expression.{selectors_of}
use Rattle.st_meaning.specs.Call.{is_direct}
use Rattle.call_steps.proofs.callee.is_direct.Given as goal

abbrev pub invariant-selectors : goal.invariant-selectors
invariant-selectors l = is_direct (selectors_of l.left) ≡ is_direct (selectors_of l.selectors)

abbrev pub decreases-selectors : goal.decreases-selectors
decreases-selectors l = length l.left
