use Rattle.check_configurations.proofs.configuration_rules.InstanceLaws.{InstancesTo}
use Rattle.check_configurations.proofs.configuration_rules.instances.check_each.Given as goal

abbrev pub invariant-loop-instance : goal.invariant-loop-instance
invariant-loop-instance l = InstancesTo l.tables.decls l.programs l.initial.taken l.taken l.instances l.found l.instance-index
