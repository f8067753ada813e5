use Rattle.check_configurations.proofs.checked_tasks.SettingLaws.{settings_fit, configured_tasks_fit}
use Rattle.check_configurations.proofs.checked_tasks.laws.setting_laws.Goals as goal

pub returns-clause-task : goal.returns-clause-task
returns-clause-task c = settings_fit

pub returns-clause-configuration : goal.returns-clause-configuration
returns-clause-configuration c = configured_tasks_fit
