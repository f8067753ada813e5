use Rattle.std.proofs.Common.{◌≡◌, ◌++◌, drop}
use Rattle.st_rules.specs.Calls.{given_from}
use Rattle.check_calls.specs.Parameters.{parameters_of}
use Rattle.check_calls.specs.Matching.{numbered_all}
use Rattle.check_calls.proofs.matching.given_of.Given as goal

abbrev pub invariant-loop-number : goal.invariant-loop-number
invariant-loop-number l = numbered_all l.list.items ++ given_from l.number (parameters_of (drop l.number l.parameters)) ≡ given_from 0 (parameters_of l.parameters)
