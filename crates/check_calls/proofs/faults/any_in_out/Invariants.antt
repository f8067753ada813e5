use Rattle.std.proofs.Common.{◌≡◌, drop}
use Rattle.std.specs.List.{list_any}
use Rattle.st_rules.specs.Calls.{is_in_out_sort}
use Rattle.check_calls.specs.Parameters.{parameters_of}
use Rattle.check_calls.proofs.faults.any_in_out.Given as goal

abbrev pub invariant-loop-parameter : goal.invariant-loop-parameter
invariant-loop-parameter l = list_any (λ v. is_in_out_sort v.sort) (parameters_of (drop l.parameter-index l.parameters)) ≡ list_any (λ v. is_in_out_sort v.sort) (parameters_of l.parameters)
