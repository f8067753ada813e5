use Rattle.std.proofs.Common.{◌≡◌, ◌≤◌, Some}
use Rattle.st_values.specs.Program.{Program}
use Rattle.st_values.specs.Shape.{Shape, shape_within}
use Rattle.mem_layout.specs.Layout.{IsSmall}
use Rattle.mem_layout.specs.Private.Table.{AreTables, Reach}
use Rattle.mem_layout.specs.Private.Way.{Towards}
use Rattle.mem_layout.proofs.ways.way.Given as goal

abbrev pub invariant-inward : goal.invariant-inward
invariant-inward l =
    record {
      under : l.deep ≤ l.depth;
      towards : (p : Program) (sh : Shape) → AreTables p l.tables → Reach p l.depth l.tables → shape_within p l.depth l.fn.kind ≡ Some sh → IsSmall sh → Towards p l.deep sh l.offset l.steps l.at l.left;
    }

abbrev pub decreases-inward : goal.decreases-inward
decreases-inward l = l.deep
