use Rattle.std.proofs.Common.{[], ◌∷◌, ◌++◌, ap, ◌∙◌}
use Rattle.st_rules.specs.Faults.{earlier, least}
use Rattle.st_unit_rules.specs.NameRules.{declared_twice}
use Rattle.check_names.proofs.name_rules.ConfigurationLaws.{instance_step}
use Rattle.check_names.proofs.name_rules.configurations.instance_fault.Goals as goal

pub returns : goal.returns
returns c = λ names mine rest h k.
    let n = c.args.name.now in (
      c.in_ok-again.ensures.held mine k,
      ap (λ x. earlier x (least (declared_twice (names ++ (mine ++ n.text ∷ [])) rest))) c.earlier.ensures
          ∙ instance_step c.args.found c.when.result c.has.result c.in_ok-again.again names mine n rest (c.has.ensures names h) (c.in_ok-again.ensures.twice mine k)
          (c.when.ensures ∙ ap (λ b. least (Rattle.st_rules.specs.Faults.when b Rattle.plc_text.specs.declared.code.Code.TheVariants.E04 n.line)) c.either-twice.ensures),
    )
