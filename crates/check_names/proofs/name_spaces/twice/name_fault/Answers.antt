use Rattle.std.proofs.Common.{ap, ◌∙◌, ◌++◌, ◌∷◌, []}
use Rattle.st_rules.specs.Faults.{earlier, least}
use Rattle.st_unit_rules.specs.NameRules.{declared_twice}
use Rattle.check_names.proofs.name_spaces.NameLaws.{twice_next}
use Rattle.check_names.proofs.name_spaces.twice.name_fault.Goals as goal

pub returns : goal.returns
returns c = λ before rest h. (
  c.in_ok-twice.ensures.held before h,
  ap (λ x. earlier x (least (declared_twice (before ++ c.args.name.now.text ∷ []) rest))) c.earlier.ensures ∙ twice_next c.args.found c.when.result c.in_ok-twice.twice before c.args.name.now rest (c.in_ok-twice.ensures.twice before h) c.when.ensures,
)
