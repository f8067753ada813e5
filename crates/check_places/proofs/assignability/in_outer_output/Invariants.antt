use Rattle.std.proofs.Common.{◌≡◌, drop, false}
use Rattle.st_tree.specs.Expression.{selectors_of}
use Rattle.st_rules.specs.Places.{in_outer_output}
use Rattle.check_places.specs.Standing.{standing}
use Rattle.check_places.specs.Private.Assignability.{within}
use Rattle.check_places.proofs.assignability.in_outer_output.Given as goal

-- the selectors that are left tell what all do
abbrev pub invariant-loop-selector : goal.invariant-loop-selector
invariant-loop-selector l = within l.s l.so_far (selectors_of (drop l.selector-index l.selectors)) ≡ in_outer_output l.s false (standing l.b) (selectors_of l.selectors)
