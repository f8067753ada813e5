use Rattle.std.proofs.Common.{ap, ◌∙◌}
use Rattle.st_rules.specs.Faults.{least}
use Rattle.st_unit_rules.specs.NameRules.{local_name_faults}
use Rattle.check_names.specs.name_rules.Spaces.{prototype_locals}
use Rattle.check_names.proofs.name_rules.FaultLists.{faults_next}
use Rattle.check_names.proofs.name_rules.spaces.prototypes_fault.Goals as goal

pub loop-method-preserved : goal.loop-method-preserved
loop-method-preserved c =
    faults_next prototype_locals c.args.methods.now c.loop-method.found c.in_ok-fault.fault c.earlier-found.result c.loop-method.method-index c.method-item.result c.loop-method-test.true c.method-item.is
    (c.in_ok-fault.ensures ∙ ap (λ ss. least (local_name_faults c.method-item.result.name.text ss)) c.as_slice.ensures) c.earlier-found.ensures c.loop-method.invariant
