use Rattle.std.proofs.Common.{◌≡◌, ◌++◌, drop}
use Rattle.st_values.specs.View as view
use Rattle.program_tables.specs.st_initial.Variables.{variables_of}
use Rattle.program_tables.proofs.st_initial.variables.push_items.Given as goal

-- what was added, and what the rest gives, is the whole
abbrev pub invariant-loop-item : goal.invariant-loop-item
invariant-loop-item l =
    (variables_of l.out.items ++ view.items_in l.sort (drop l.item-index l.items)) ≡ (variables_of l.initial.out.items ++ view.items_in l.sort l.items)
