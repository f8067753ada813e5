use Rattle.std.proofs.Common.{◌≡◌, ◌++◌, drop}
use Rattle.std.specs.Prelude.{option_map}
use Rattle.st_values.specs.View as view
use Rattle.program_tables.specs.st_initial.Variables.{variables_of}
use Rattle.program_tables.proofs.st_initial.variables.push_item.Given as goal

-- what was added, and what the rest gives, is the whole
abbrev pub invariant-loop-name : goal.invariant-loop-name
invariant-loop-name l =
    (variables_of l.out.items ++ view.named_variables l.sort l.item (record l.item.marks { renamed_from = option_map (λ n. n.now) l.renamed_from }) (drop l.name-index l.item.names))
    ≡ (variables_of l.initial.out.items ++ view.named_variables l.sort l.item l.item.marks l.item.names)
