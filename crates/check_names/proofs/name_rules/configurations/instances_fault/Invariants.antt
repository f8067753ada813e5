use Rattle.check_names.proofs.name_rules.ConfigurationLaws.{InstancesTo}
use Rattle.check_names.proofs.name_rules.configurations.instances_fault.Given as goal

abbrev pub invariant-loop-instance : goal.invariant-loop-instance
invariant-loop-instance l = InstancesTo l.before l.initial.own l.own l.found l.instances l.instance-index
