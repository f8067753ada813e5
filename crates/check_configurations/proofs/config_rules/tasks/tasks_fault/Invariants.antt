use Rattle.st_unit_rules.specs.ConfigurationRules.{task_faults}
use Rattle.check_configurations.proofs.config_rules.ConfigLaws.{NumberedTo}
use Rattle.check_configurations.proofs.config_rules.tasks.tasks_fault.Given as goal

abbrev pub invariant-loop-i : goal.invariant-loop-i
invariant-loop-i l = NumberedTo (task_faults l.instances) l.tasks l.found l.i
