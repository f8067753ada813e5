use Rattle.std.proofs.Common.{take}
use Rattle.check_names.specs.name_spaces.Held.{Holds}
use Rattle.check_configurations.specs.config_rules.Private.Names.{task_names}
use Rattle.check_configurations.proofs.config_rules.tasks.hold_tasks.Given as goal

abbrev pub invariant-loop-task : goal.invariant-loop-task
invariant-loop-task l = Holds l.held (task_names (take l.task-index l.tasks))
