use Rattle.std.proofs.Common.{ap, ◌∙◌, ◌++◌, ◌∷◌, []}
use Rattle.std.specs.Prelude.{not, ◌||◌}
use Rattle.st_rules.specs.Faults.{earlier, least}
use Rattle.st_unit_rules.specs.ConfigurationRules.{settings_faults, suits_setting}
use Rattle.check_configurations.proofs.config_rules.SettingLaws.{setting_next}
use Rattle.check_configurations.proofs.config_rules.settings.setting_fault.Goals as goal

pub returns : goal.returns
returns c = λ before rest h. (
  c.in_ok-again.ensures.held before h,
  ap (λ y. earlier y (least (settings_faults (before ++ c.args.x.now.name.text ∷ []) rest))) (c.earlier-2.ensures ∙ ap (earlier c.args.found) c.earlier.ensures)
      ∙ setting_next c.args.found c.when-bad.result c.past_its_limit-past.result c.is_bad.result before c.args.x.now rest
      (c.is_bad.ensures ∙ ap (λ b. not b || c.in_ok-again.again) c.suits_setting-suits.ensures ∙ ap (λ b. not (suits_setting c.args.x.now.name.text c.args.x.now.value) || b) (c.in_ok-again.ensures.twice before h))
      c.when-bad.ensures c.past_its_limit-past.ensures,
)
