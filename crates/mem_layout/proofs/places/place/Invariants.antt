use Rattle.std.proofs.Common.{◌≡◌, ℕ, suc, Some, length}
use Rattle.st_values.specs.Program.{Program}
use Rattle.st_values.specs.Shape.{Shape, shape_within}
use Rattle.mem_layout.specs.Layout.{IsSmall}
use Rattle.mem_layout.specs.Private.Table.{AreTables, Reach}
use Rattle.mem_layout.specs.Private.Place.{Leading}
use Rattle.mem_layout.proofs.places.place.Given as goal

abbrev pub invariant-steps : goal.invariant-steps
invariant-steps l = (p : Program) (n : ℕ) (sh : Shape) → AreTables p l.tables → Reach p (suc n) l.tables → shape_within p (suc n) l.fn.kind ≡ Some sh → IsSmall sh → Leading p (suc n) sh l.fn.steps l.left l.at l.offset

abbrev pub decreases-steps : goal.decreases-steps
decreases-steps l = length l.left
