use Rattle.std.proofs.Common.{◌≡◌, ◌++◌, length, map, reverse}
use Rattle.code_cells.specs.Cell.{settled_from}
use Rattle.code_cells.proofs.settling.settle.Given as goal

-- what is done, and what is left, is the whole
abbrev pub invariant-cells : goal.invariant-cells
invariant-cells l = record {
  ops : l.ops ++ map (λ x. x.0) (settled_from l.pc (reverse l.left.items)) ≡ map (λ x. x.0) (settled_from 0 (reverse l.fn.cells.items));
  lines : l.lines ++ map (λ x. x.1) (settled_from l.pc (reverse l.left.items)) ≡ map (λ x. x.1) (settled_from 0 (reverse l.fn.cells.items));
}

abbrev pub decreases-cells : goal.decreases-cells
decreases-cells l = length l.left.items
