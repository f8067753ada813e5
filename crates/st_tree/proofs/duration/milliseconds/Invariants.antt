use Rattle.std.proofs.Common.{◌≡◌, ◌+◌, ◌<◌, ◌^◌, drop}
use Rattle.st_tree.specs.Duration.{total, parts_behind, milliseconds}
use Rattle.st_tree.proofs.duration.milliseconds.Given as goal

abbrev pub invariant-loop-i : goal.invariant-loop-i
invariant-loop-i l = record {
  rest : l.total + total (parts_behind l.after_digit (drop l.i l.bytes)) ≡ milliseconds l.text;
  fits : l.total < 2 ^ 64;
}
