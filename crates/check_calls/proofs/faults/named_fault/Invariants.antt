use Rattle.std.proofs.Common.{drop}
use Rattle.check_calls.specs.Heads.{heads_told}
use Rattle.check_calls.specs.Parameters.{parameters_of}
use Rattle.check_calls.proofs.MatchingLaws.{SeenSoFar}
use Rattle.check_calls.proofs.faults.named_fault.Given as goal

abbrev pub invariant-loop-h : goal.invariant-loop-h
invariant-loop-h l = SeenSoFar (parameters_of l.parameters) l.seen l.found (heads_told (drop l.h-index l.heads)) (heads_told l.heads)
