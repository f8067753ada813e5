use Rattle.std.proofs.Common.{◌≡◌, ◌++◌, drop}
use Rattle.st_values.specs.View as view
use Rattle.program_tables.specs.st_initial.Variables.{variables_of}
use Rattle.program_tables.proofs.st_initial.variables.push_groups.Given as goal

-- what was added, and what the rest gives, is the whole
abbrev pub invariant-loop-group : goal.invariant-loop-group
invariant-loop-group l = (variables_of l.out.items ++ view.groups_in (drop l.group-index l.groups)) ≡ (variables_of l.initial.out.items ++ view.groups_in l.groups)
