use Rattle.std.proofs.Common.{◌+◌, List, Option, map, sym, subst}
use Rattle.st_tree.specs.declared.program.TaskDecl.{TaskDecl}
use Rattle.check_regions.specs.unit_regions.Listed.{region_as}
use Rattle.check_configurations.specs.checked_tasks.Private.Made.{ChecksTask}
use Rattle.check_configurations.proofs.checked_tasks.TaskLaws.{TasksTo, tasks_next, tasks_stopped, tasks_fit, tasks_typed}
use Rattle.check_configurations.proofs.checked_tasks.tasks.check_tasks.Goals as goal

pub returns-in-None-clause-fits : goal.returns-in-None-clause-fits
returns-in-None-clause-fits c =
    tasks_stopped c.in_ok-groups.groups c.args.tasks.now c.loop-task.made c.loop-task.task-index c.task-item.result c.loop-task-test.true c.task-item.is c.loop-task.invariant
    (subst (λ (made : Option TaskDecl). ChecksTask c.in_ok-groups.groups c.task-item.result made) c.in-None.is c.in_ok-checked.ensures)

pub loop-task-preserved : goal.loop-task-preserved
loop-task-preserved c =
    subst (λ (made : List TaskDecl). TasksTo c.in_ok-groups.groups c.args.tasks.now made (c.loop-task.task-index + 1)) (sym c.in_ok-push-in-Some.ensures.ok)
    (tasks_next c.in_ok-groups.groups c.args.tasks.now c.loop-task.made c.loop-task.task-index c.task-item.result c.loop-task-test.true c.task-item.is c.loop-task.invariant c.in-Some.checked
    (subst (λ (made : Option TaskDecl). ChecksTask c.in_ok-groups.groups c.task-item.result made) c.in-Some.is c.in_ok-checked.ensures))

pub returns-clause-fits : goal.returns-clause-fits
returns-clause-fits c = tasks_fit c.in_ok-groups.groups c.args.tasks.now c.loop-task.made c.loop-task.task-index c.loop-task-test.false c.loop-task.invariant

pub returns-clause-typed : goal.returns-clause-typed
returns-clause-typed c = tasks_typed c.in_ok-groups.groups c.args.tasks.now c.loop-task.made c.loop-task.task-index (map region_as c.args.regions.now) c.loop-task-test.false c.loop-task.invariant c.in_ok-groups.ensures
