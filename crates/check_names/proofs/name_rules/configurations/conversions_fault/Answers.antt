use Rattle.check_names.specs.name_rules.Configurations.{conversion_of_instance}
use Rattle.check_names.proofs.name_rules.FaultLists.{faults_next}
use Rattle.check_names.proofs.name_rules.configurations.conversions_fault.Goals as goal

pub loop-instance-preserved : goal.loop-instance-preserved
loop-instance-preserved c =
    faults_next conversion_of_instance c.args.instances.now c.loop-instance.found c.conversion_fault.result c.earlier-found.result c.loop-instance.instance-index c.instance-item.result c.loop-instance-test.true c.instance-item.is
    c.conversion_fault.ensures c.earlier-found.ensures c.loop-instance.invariant
