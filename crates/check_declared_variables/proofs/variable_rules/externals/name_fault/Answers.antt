use Rattle.std.proofs.Common.{ap, ◌∙◌}
use Rattle.plc_text.specs.declared.code.Code.TheVariants.{E07}
use Rattle.st_rules.specs.Faults.{least, when}
use Rattle.check_declared_variables.proofs.variable_rules.ExternalLaws.{fault_found, fault_missing}
use Rattle.check_declared_variables.proofs.variable_rules.externals.name_fault.Goals as goal

pub returns-in-Some : goal.returns-in-Some
returns-in-Some c =
    fault_found c.args.line c.args.kind.now c.args.name.now _ _ _ c.in-Some.ensures (c.when.ensures ∙ ap (λ b. least (when b E07 c.args.line)) c.is_another_type.ensures)

pub returns-in-None : goal.returns-in-None
returns-in-None c = fault_missing c.args.line c.args.kind.now c.args.name.now _ _ c.in-None.ensures c.when-in-None.ensures
