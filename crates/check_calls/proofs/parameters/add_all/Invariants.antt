use Rattle.std.proofs.Common.{◌≡◌, ◌++◌, drop}
use Rattle.check_calls.specs.Parameters.{parameters_of}
use Rattle.check_calls.proofs.parameters.add_all.Given as goal

abbrev pub invariant-loop-v : goal.invariant-loop-v
invariant-loop-v l = parameters_of l.list.items ++ drop l.v-index l.variables ≡ parameters_of l.initial.list.items ++ l.variables
