use Rattle.std.proofs.Common.{◌≡◌, drop}
use Rattle.st_tree.specs.Expression.{selectors_of}
use Rattle.st_meaning.specs.st_frame.Use as words
use Rattle.body_uses.proofs.calls.last_kind.Given as goal

abbrev pub invariant-loop-selector : goal.invariant-loop-selector
invariant-loop-selector l = words.last_kind l.at (selectors_of (drop l.selector-index l.selectors)) ≡ words.last_kind l.kind (selectors_of l.selectors)
