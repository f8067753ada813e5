use Rattle.std.proofs.Common.{◌≡◌, drop}
use Rattle.std.specs.List.{list_any}
use Rattle.check_calls.specs.Parameters.{parameters_of}
use Rattle.check_calls.specs.Private.Names.{is_left_out_of}
use Rattle.check_calls.proofs.faults.any_left_out.Given as goal

abbrev pub invariant-loop-parameter : goal.invariant-loop-parameter
invariant-loop-parameter l = list_any (is_left_out_of l.inputs) (parameters_of (drop l.parameter-index l.parameters)) ≡ list_any (is_left_out_of l.inputs) (parameters_of l.parameters)
