use Rattle.std.proofs.Common.{◌≡◌, ◌++◌, drop}
use Rattle.std.specs.Prelude.{filter}
use Rattle.st_rules.specs.Calls.{is_parameter}
use Rattle.check_calls.specs.Parameters.{parameters_of}
use Rattle.check_calls.proofs.parameters.add_own.Given as goal

abbrev pub invariant-loop-v : goal.invariant-loop-v
invariant-loop-v l = parameters_of l.list.items ++ filter is_parameter (drop l.v-index l.variables) ≡ parameters_of l.initial.list.items ++ filter is_parameter l.variables
