use Rattle.std.proofs.Common.{◌≡◌, drop}
use Rattle.st_tree.specs.Expression.{selectors_of}
use Rattle.st_rules.specs.Places.{along}
use Rattle.check_places.specs.Standing.{standing}
use Rattle.check_places.proofs.places.along.Given as goal

-- the selectors that are left, from where those so far lead to, lead where all do
abbrev pub invariant-loop-selector : goal.invariant-loop-selector
invariant-loop-selector l = along l.s (standing l.at) (selectors_of (drop l.selector-index l.selectors)) ≡ along l.s (standing l.fn.b) (selectors_of l.selectors)
