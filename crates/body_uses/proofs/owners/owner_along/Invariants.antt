use Rattle.std.proofs.Common.{◌≡◌, drop}
use Rattle.st_tree.specs.Expression.{selectors_of}
use Rattle.st_meaning.specs.Place.{root_note}
use Rattle.st_meaning.specs.st_frame.Use as words
use Rattle.body_uses.specs.Private.Uses.{owner_if}
use Rattle.body_uses.proofs.owners.owner_along.Given as goal

-- the owner so far, with what is left, is the owner of the whole
abbrev pub invariant-loop-selector : goal.invariant-loop-selector
invariant-loop-selector l = words.owner_along (owner_if l.owner) l.kind (selectors_of (drop l.selector-index l.selectors)) ≡ words.owner_along (words.root_owner l.root) (root_note l.root).kind (selectors_of l.selectors)
