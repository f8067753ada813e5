use Rattle.std.proofs.Common.{◌≡◌, ◌++◌, map, drop}
use Rattle.check_limits.specs.type_sizes.Private.Rounds.{instance_from}
use Rattle.check_limits.proofs.type_sizes.rounds.instances_of.Given as goal

abbrev pub invariant-loop-first : goal.invariant-loop-first
invariant-loop-first l = l.sizes.items ++ map (instance_from l.totals) (drop l.first-index l.firsts) ≡ map (instance_from l.totals) l.firsts
