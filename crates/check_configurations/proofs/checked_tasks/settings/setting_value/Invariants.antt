use Rattle.plc_text.specs.Words.{same}
use Rattle.check_configurations.proofs.checked_tasks.SettingLaws.{SettingsTo}
use Rattle.check_configurations.proofs.checked_tasks.settings.setting_value.Given as goal

abbrev pub invariant-loop-setting : goal.invariant-loop-setting
invariant-loop-setting l = SettingsTo (λ name. same name l.wanted) l.settings l.setting-index
