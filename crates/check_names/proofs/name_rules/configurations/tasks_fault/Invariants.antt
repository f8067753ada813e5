use Rattle.std.proofs.Common.{◌≡◌, ◌++◌, drop}
use Rattle.check_names.specs.name_spaces.NamesIn.{names_of}
use Rattle.check_names.specs.name_rules.Configurations.{task_names}
use Rattle.check_names.proofs.name_rules.configurations.tasks_fault.Given as goal

abbrev pub invariant-loop-task : goal.invariant-loop-task
invariant-loop-task l = names_of l.names.items ++ task_names (drop l.task-index l.tasks) ≡ task_names l.tasks
