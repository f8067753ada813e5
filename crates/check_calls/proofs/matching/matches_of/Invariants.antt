use Rattle.std.proofs.Common.{◌≡◌, ◌++◌, drop}
use Rattle.st_rules.specs.Calls.{matched}
use Rattle.check_calls.specs.Heads.{heads_told}
use Rattle.check_calls.specs.Parameters.{parameters_of}
use Rattle.check_calls.specs.Matching.{numbered_all, matched_all}
use Rattle.check_calls.proofs.matching.matches_of.Given as goal

abbrev pub invariant-loop-h : goal.invariant-loop-h
invariant-loop-h l = matched_all l.list.items ++ matched (parameters_of l.parameters) (numbered_all (drop l.next l.given)) (heads_told (drop l.h-index l.heads)) ≡ matched (parameters_of l.parameters) (numbered_all l.given) (heads_told l.heads)
