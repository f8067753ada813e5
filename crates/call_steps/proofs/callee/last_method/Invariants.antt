use Rattle.std.proofs.Common.{◌≡◌, None, option_map, length}
use Rattle.st_tree.specs.Expression.{selectors_of}
use Rattle.st_meaning.specs.Call.{last_method}
use Rattle.call_steps.proofs.callee.last_method.Given as goal

-- the selectors that are left have the method that all have
abbrev pub invariant-selectors : goal.invariant-selectors
invariant-selectors l = last_method (option_map (λ t. t.now) l.found) (selectors_of l.left) ≡ last_method None (selectors_of l.selectors)

abbrev pub decreases-selectors : goal.decreases-selectors
decreases-selectors l = length l.left
