use Rattle.check_configurations.proofs.checked_tasks.TaskLaws.{TasksTo}
use Rattle.check_configurations.proofs.checked_tasks.tasks.check_tasks.Given as goal

abbrev pub invariant-loop-task : goal.invariant-loop-task
invariant-loop-task l = TasksTo l.groups l.tasks l.made l.task-index
