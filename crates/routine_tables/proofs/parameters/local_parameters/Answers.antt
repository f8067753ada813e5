use Rattle.std.proofs.Common.{◌+◌, ◌++◌, drop, refl, sym, ap, ◌∙◌}
use Rattle.st_rules.proofs.ListLaws.{drop-at}
use Rattle.st_values.specs.View as view
use Rattle.program_tables.specs.st_initial.Variables.{variable_of, variables_of}
use Rattle.routine_tables.specs.Parameters.{parameters_of}
use Rattle.routine_tables.proofs.parameters.local_parameters.Goals as goal

pub loop-variable-preserved : goal.loop-variable-preserved
loop-variable-preserved c =
    let vs = c.args.variables.now in
    let i = c.loop-variable.variable-index in
    c.in_ok-next.ensures (variable_of c.variable-item.result) (variables_of (drop (i + 1) vs)) refl
    ∙ ap (λ xs. parameters_of c.loop-variable.made ++ view.local_parameters c.loop-variable.next (view.those view.is_parameter (variables_of xs))) (sym (drop-at vs i c.variable-item.result c.loop-variable-test.true c.variable-item.is))
    ∙ c.loop-variable.invariant
