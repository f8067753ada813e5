use Rattle.std.proofs.Common.{◌≡◌, ◌++◌, drop}
use Rattle.st_values.specs.View as view
use Rattle.program_tables.specs.st_initial.Variables.{variables_of}
use Rattle.program_tables.proofs.st_initial.variables.push_sections.Given as goal

-- what was added, and what the rest gives, is the whole
abbrev pub invariant-loop-section : goal.invariant-loop-section
invariant-loop-section l =
    (variables_of l.out.items ++ view.those view.is_kept (view.variables_in (drop l.section-index l.sections)))
    ≡ (variables_of l.initial.out.items ++ view.those view.is_kept (view.variables_in l.sections))
