use Rattle.std.proofs.Common.{◌≡◌, false}
use Rattle.graph_reach.proofs.BitLaws.{Joined}
use Rattle.graph_reach.proofs.bits.join.Given as goal

abbrev pub invariant-loop-i : goal.invariant-loop-i
invariant-loop-i l = record {
  joined : Joined l.fn.row l.from l.row l.i;
  still : l.changed ≡ false → l.row ≡ l.fn.row;
}
