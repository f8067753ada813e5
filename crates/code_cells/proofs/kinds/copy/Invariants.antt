use Rattle.std.proofs.Common.{◌≡◌, ◌++◌, drop}
use Rattle.code_cells.proofs.kinds.copy.Given as goal

abbrev pub invariant-loop-k : goal.invariant-loop-k
invariant-loop-k l = l.out ++ drop l.k-index l.ks ≡ l.ks
