use Rattle.std.proofs.Common.{take}
use Rattle.check_names.specs.name_spaces.Held.{Holds}
use Rattle.check_configurations.specs.config_rules.Private.Names.{tasks_run}
use Rattle.check_configurations.proofs.config_rules.tasks.hold_run.Given as goal

abbrev pub invariant-loop-instance : goal.invariant-loop-instance
invariant-loop-instance l = Holds l.held (tasks_run (take l.instance-index l.instances))
