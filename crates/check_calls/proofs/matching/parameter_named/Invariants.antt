use Rattle.std.proofs.Common.{◌≡◌, drop}
use Rattle.st_rules.specs.Calls.{parameter_from}
use Rattle.check_calls.specs.Parameters.{parameters_of}
use Rattle.check_calls.specs.Private.Matching.{passes}
use Rattle.check_calls.proofs.matching.parameter_named.Given as goal

abbrev pub invariant-loop-number : goal.invariant-loop-number
invariant-loop-number l = parameter_from (passes l.way) l.number l.name (parameters_of (drop l.number l.parameters)) ≡ parameter_from (passes l.way) 0 l.name (parameters_of l.parameters)
