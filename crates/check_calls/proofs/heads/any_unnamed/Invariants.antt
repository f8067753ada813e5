use Rattle.std.proofs.Common.{◌≡◌, drop}
use Rattle.std.specs.List.{list_any}
use Rattle.st_rules.specs.Calls.{is_unnamed}
use Rattle.check_calls.specs.Heads.{heads_told}
use Rattle.check_calls.proofs.heads.any_unnamed.Given as goal

abbrev pub invariant-loop-h : goal.invariant-loop-h
invariant-loop-h l = list_any is_unnamed (heads_told (drop l.h-index l.heads)) ≡ list_any is_unnamed (heads_told l.heads)
