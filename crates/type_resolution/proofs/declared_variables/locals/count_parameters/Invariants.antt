use Rattle.std.proofs.Common.{◌≡◌, ◌+◌, drop, map, length}
use Rattle.std.specs.Prelude.{filter}
use Rattle.st_unit_rules.specs.declared_names.Variables.{is_parameter_written}
use Rattle.type_resolution.specs.declared_variables.Private.Told.{told_as}
use Rattle.type_resolution.proofs.declared_variables.locals.count_parameters.Given as goal

-- what was counted, and what the rest counts, is all
abbrev pub invariant-loop-told : goal.invariant-loop-told
invariant-loop-told l =
    l.count + length (filter is_parameter_written (map (λ t. t.written) (map told_as (drop l.told-index l.names)))) ≡ l.first + length (filter is_parameter_written (map (λ t. t.written) (map told_as l.names)))
