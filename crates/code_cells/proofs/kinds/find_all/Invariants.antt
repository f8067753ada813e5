use Rattle.std.proofs.Common.{◌≡◌, map, reverse, take}
use Rattle.code_cells.specs.Found.{all_found, ended}
use Rattle.code_cells.proofs.kinds.find_all.Given as goal

abbrev pub invariant-loop-cell : goal.invariant-loop-cell
invariant-loop-cell l = map reverse (reverse l.kinds.items) ≡ all_found (reverse (take l.cell-index l.cells)) ended
