use Rattle.plc_text.specs.Words.{same}
use Rattle.check_configurations.proofs.checked_tasks.SettingLaws.{settings_next, settings_found, settings_ended}
use Rattle.check_configurations.proofs.checked_tasks.settings.setting_value.Goals as goal

pub returns-then-is_wanted : goal.returns-then-is_wanted
returns-then-is_wanted c =
    settings_found (λ name. same name c.args.wanted.now) c.args.settings.now c.loop-setting.setting-index c.setting-item.result c.loop-setting-test.true c.setting-item.is c.loop-setting.invariant c.is_wanted.result c.fitting_value.result
    c.is_wanted.ensures c.if-is_wanted.true c.fitting_value.ensures

pub loop-setting-preserved : goal.loop-setting-preserved
loop-setting-preserved c =
    settings_next (λ name. same name c.args.wanted.now) c.args.settings.now c.loop-setting.setting-index c.setting-item.result c.loop-setting-test.true c.setting-item.is c.loop-setting.invariant c.is_wanted.result c.is_wanted.ensures
    c.if-is_wanted.false

pub returns : goal.returns
returns c = settings_ended (λ name. same name c.args.wanted.now) c.args.settings.now c.loop-setting.setting-index c.loop-setting-test.false c.loop-setting.invariant
