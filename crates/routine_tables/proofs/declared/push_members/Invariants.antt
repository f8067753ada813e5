use Rattle.std.proofs.Common.{◌≡◌, ◌++◌, drop}
use Rattle.st_values.specs.View as view
use Rattle.program_tables.specs.st_initial.Variables.{variables_of}
use Rattle.routine_tables.proofs.declared.push_members.Given as goal

-- what was added, and what the rest gives, is the whole
abbrev pub invariant-loop-member : goal.invariant-loop-member
invariant-loop-member l = (variables_of l.out.items ++ view.variables_in (view.sections_in (drop l.member-index l.members))) ≡ (variables_of l.initial.out.items ++ view.variables_in (view.sections_in l.members))
