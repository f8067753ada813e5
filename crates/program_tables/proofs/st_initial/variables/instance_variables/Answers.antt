use Rattle.std.proofs.Common.{reverse, ap, ◌∙◌}
use Rattle.st_tree.specs.declared.program.Program.{Program}
use Rattle.st_values.specs.Program.{class_at, chain_of, own_variables, class_variables}
use Rattle.st_values.specs.View.{program_of}
use Rattle.program_tables.proofs.st_initial.variables.instance_variables.Goals as goal

pub returns : goal.returns
unfolding class_variables
returns c =
    c.in_ok-variables.ensures
    ∙ ap (λ cs. own_variables (program_of c.args.program.now) (reverse cs)) (c.deref.ensures.value ∙ c.in_ok-chain.ensures ∙ ap (λ (p : Program). chain_of (class_at (program_of p) c.args.class)) c.requires)
