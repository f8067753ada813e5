use Rattle.std.proofs.Common.{[], ap, ◌∙◌}
use Rattle.st_rules.specs.Faults.{least}
use Rattle.st_unit_rules.specs.ConfigurationRules.{settings_faults}
use Rattle.check_configurations.proofs.config_rules.ConfigLaws.{task_told}
use Rattle.check_configurations.proofs.config_rules.tasks.task_fault.Goals as goal

pub returns : goal.returns
returns c =
    task_told c.args.instances.now c.args.before c.args.task.now c.earlier-2.result c.earlier.result c.in_ok-setting.setting c.when-idle.result c.when-many.result c.is_run.result
    c.earlier-2.ensures c.earlier.ensures (c.in_ok-setting.ensures ∙ ap (λ xs. least (settings_faults [] xs)) c.as_slice.ensures) c.is_run.ensures c.when-idle.ensures c.when-many.ensures
