use Rattle.std.proofs.Common.{◌≡◌, ◌++◌, drop}
use Rattle.st_values.specs.View as view
use Rattle.program_tables.specs.st_initial.Variables.{variables_of}
use Rattle.program_tables.proofs.st_initial.variables.push_group.Given as goal

-- what was added, and what the rest gives, is the whole
abbrev pub invariant-loop-name : goal.invariant-loop-name
invariant-loop-name l =
    (variables_of l.out.items ++ view.group_variables l.group (drop l.name-index l.group.names)) ≡ (variables_of l.initial.out.items ++ view.group_variables l.group l.group.names)
