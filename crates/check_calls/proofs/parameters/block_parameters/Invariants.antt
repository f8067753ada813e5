use Rattle.std.proofs.Common.{◌≡◌, ◌≤◌, ◌++◌, take, length}
use Rattle.std.specs.Prelude.{filter, flat_map, reverse}
use Rattle.st_rules.specs.Scope.{variables_of}
use Rattle.st_rules.specs.Calls.{is_parameter}
use Rattle.check_calls.specs.Parameters.{parameters_of}
use Rattle.check_calls.proofs.parameters.block_parameters.Given as goal

abbrev pub invariant-classes : goal.invariant-classes
invariant-classes l = record {
  within : l.i ≤ length l.chain.items;
  whole : parameters_of l.list.items ++ flat_map (λ d. filter is_parameter (variables_of l.s d)) (reverse (take l.i l.chain.items)) ≡ flat_map (λ d. filter is_parameter (variables_of l.s d)) (reverse l.chain.items);
}

abbrev pub decreases-classes : goal.decreases-classes
decreases-classes l = l.i
