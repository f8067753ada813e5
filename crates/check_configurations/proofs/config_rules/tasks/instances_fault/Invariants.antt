use Rattle.st_unit_rules.specs.ConfigurationRules.{instance_faults}
use Rattle.st_unit_rules.specs.NameRules.{texts}
use Rattle.check_names.specs.name_spaces.NamesIn.{names_of}
use Rattle.check_configurations.specs.config_rules.Private.Names.{task_names}
use Rattle.check_configurations.proofs.config_rules.ConfigLaws.{FaultsTo}
use Rattle.check_configurations.proofs.config_rules.tasks.instances_fault.Given as goal

abbrev pub invariant-loop-instance : goal.invariant-loop-instance
invariant-loop-instance l = FaultsTo (instance_faults (task_names l.tasks) (texts (names_of l.programs))) l.instances l.found l.instance-index
