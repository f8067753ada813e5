use Rattle.std.proofs.Common.{◌≡◌, ◌++◌, drop}
use Rattle.st_values.specs.View as view
use Rattle.program_tables.specs.st_initial.Variables.{variables_of}
use Rattle.routine_tables.specs.Parameters.{parameters_of}
use Rattle.routine_tables.proofs.parameters.body_parameters.Given as goal

-- what was added, and what the rest gives, is the whole
abbrev pub invariant-loop-variable : goal.invariant-loop-variable
invariant-loop-variable l =
    (parameters_of l.made ++ view.body_parameters l.next.variable l.next.local (variables_of (drop l.variable-index l.variables))) ≡ view.body_parameters 0 0 (variables_of l.variables)
