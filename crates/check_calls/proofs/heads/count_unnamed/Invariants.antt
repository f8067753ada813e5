use Rattle.std.proofs.Common.{◌≡◌, ◌≤◌, ◌+◌, drop}
use Rattle.st_rules.specs.Calls.{count_unnamed}
use Rattle.check_calls.specs.Heads.{heads_told}
use Rattle.check_calls.proofs.heads.count_unnamed.Given as goal

abbrev pub invariant-loop-h : goal.invariant-loop-h
invariant-loop-h l = record {
  few : l.count ≤ l.h-index;
  whole : l.count + count_unnamed (heads_told (drop l.h-index l.heads)) ≡ count_unnamed (heads_told l.heads);
}
