use Rattle.check_names.specs.name_rules.Configurations.{conversion_of_instance}
use Rattle.check_names.proofs.name_rules.FaultLists.{FaultsTo}
use Rattle.check_names.proofs.name_rules.configurations.conversions_fault.Given as goal

abbrev pub invariant-loop-instance : goal.invariant-loop-instance
invariant-loop-instance l = FaultsTo conversion_of_instance l.instances l.found l.instance-index
