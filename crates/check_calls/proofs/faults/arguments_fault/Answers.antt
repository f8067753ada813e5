use Rattle.std.proofs.Common.{[], sym, ap, ◌∙◌}
use Rattle.std.specs.Prelude.{if◌then◌else◌}
use Rattle.st_rules.specs.Faults.{least}
use Rattle.st_rules.specs.Calls.{matching_faults}
use Rattle.check_calls.specs.Heads.{heads_told}
use Rattle.check_calls.specs.Parameters.{parameters_of}
use Rattle.check_calls.proofs.faults.arguments_fault.Goals as goal

pub returns-in_ok-fault : goal.returns-in_ok-fault
returns-in_ok-fault c = λ s. c.in_ok-fault.ensures ∙ ap (λ t. least (if t then matching_faults c.args.line (parameters_of c.args.parameters.now) (heads_told c.args.heads.now) else [])) (sym c.if-has_parameters.true ∙ c.has_parameters.ensures s)

pub returns-else-has_parameters : goal.returns-else-has_parameters
returns-else-has_parameters c = λ s. ap (λ t. least (if t then matching_faults c.args.line (parameters_of c.args.parameters.now) (heads_told c.args.heads.now) else [])) (sym c.if-has_parameters.false ∙ c.has_parameters.ensures s)
