use Rattle.std.proofs.Common.{◌≡◌, drop}
use Rattle.std.specs.List.{list_any}
use Rattle.st_rules.specs.Calls.{is_named}
use Rattle.check_calls.specs.Heads.{heads_told}
use Rattle.check_calls.proofs.heads.any_named.Given as goal

abbrev pub invariant-loop-h : goal.invariant-loop-h
invariant-loop-h l = list_any is_named (heads_told (drop l.h-index l.heads)) ≡ list_any is_named (heads_told l.heads)
