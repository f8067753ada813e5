use Rattle.std.proofs.Common.{◌≡◌, ◌++◌, drop, map}
use Rattle.check_calls.specs.Matching.{matched_all}
use Rattle.check_nodes.specs.Slots.{slots, used}
use Rattle.check_nodes.proofs.slots.slots_of.Given as goal

abbrev pub invariant-loop-m : goal.invariant-loop-m
invariant-loop-m l = slots l.list.items ++ map used (matched_all (drop l.m-index l.matches)) ≡ map used (matched_all l.matches)
