use Rattle.check_configurations.proofs.config_rules.SettingLaws.{SettingsTo}
use Rattle.check_configurations.proofs.config_rules.settings.settings_fault.Given as goal

abbrev pub invariant-loop-x : goal.invariant-loop-x
invariant-loop-x l = SettingsTo l.held l.found l.settings l.x-index
