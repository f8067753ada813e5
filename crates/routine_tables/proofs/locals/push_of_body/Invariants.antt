use Rattle.std.proofs.Common.{◌≡◌, ◌++◌, drop}
use Rattle.st_values.specs.View as view
use Rattle.program_tables.specs.st_initial.Variables.{variables_of}
use Rattle.routine_tables.proofs.locals.push_of_body.Given as goal

-- what was added, and what the rest gives, is the whole
abbrev pub invariant-loop-variable : goal.invariant-loop-variable
invariant-loop-variable l =
    (variables_of l.out.items ++ view.those view.is_of_body (variables_of (drop l.variable-index l.variables))) ≡ (variables_of l.initial.out.items ++ view.those view.is_of_body (variables_of l.variables))
