use Rattle.std.proofs.Common.{◌≡◌, ◌++◌, Some, length, map, reverse}
use Rattle.code_cells.proofs.whole.turned.Given as goal

abbrev pub invariant-kinds : goal.invariant-kinds
invariant-kinds l = l.out ++ map Some (reverse l.left.items) ≡ map Some (reverse l.fn.kinds.items)

abbrev pub decreases-kinds : goal.decreases-kinds
decreases-kinds l = length l.left.items
