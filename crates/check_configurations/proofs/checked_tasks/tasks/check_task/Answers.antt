use Rattle.std.proofs.Common.{◌∙◌}
use Rattle.check_configurations.proofs.checked_tasks.TaskLaws.{past_interval, past_priority, task_made}
use Rattle.check_configurations.proofs.checked_tasks.tasks.check_task.Goals as goal

pub returns-in_default : goal.returns-in_default
returns-in_default c = past_interval c.args.groups.now c.args.task.now c.as_slice-settings.result.now c.as_slice-settings.ensures c.in_default.ensures

pub returns-in_default-setting_value : goal.returns-in_default-setting_value
returns-in_default-setting_value c = past_priority c.args.groups.now c.args.task.now c.as_slice-settings.result.now c.as_slice-settings.ensures c.in-Some.interval c.in-Some.ensures c.in_default-setting_value.ensures

pub returns : goal.returns
returns c =
    task_made c.args.groups.now c.args.task.now c.as_slice-settings.result.now c.as_slice-settings.ensures c.in-Some.interval c.in-Some-setting_value.priority c.in_ok-programs.programs c.in_ok-name.name
    c.in-Some.ensures c.in-Some-setting_value.ensures c.in_ok-programs.ensures (c.in_ok-name.ensures ∙ c.as_str.ensures)
