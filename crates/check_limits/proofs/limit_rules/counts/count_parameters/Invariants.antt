use Rattle.std.proofs.Common.{◌≡◌, ◌≤◌, ◌+◌, length, drop}
use Rattle.std.specs.Prelude.{filter}
use Rattle.st_unit_rules.specs.declared_names.Variables.{is_parameter_written}
use Rattle.st_unit_rules.specs.declaration_list.Written.{written_of}
use Rattle.check_limits.proofs.limit_rules.counts.count_parameters.Given as goal

abbrev pub invariant-loop-name : goal.invariant-loop-name
invariant-loop-name l = record {
  whole : l.count + length (filter (λ w. is_parameter_written (written_of w)) (drop l.name-index l.names)) ≡ length (filter (λ w. is_parameter_written (written_of w)) l.names);
  few : l.count ≤ l.name-index;
}
