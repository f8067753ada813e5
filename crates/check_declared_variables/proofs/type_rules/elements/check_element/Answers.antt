use Rattle.check_declared_variables.proofs.type_rules.ElementLaws.{elementary_arm, named_arm, reference_arm}
use Rattle.check_declared_variables.proofs.type_rules.elements.check_element.Goals as goal

pub returns-in-Elementary : goal.returns-in-Elementary
returns-in-Elementary c = elementary_arm _ _ _ _ _ c.in-Elementary.is c.elementary.ensures

pub returns-in_ok-c-in-Named : goal.returns-in_ok-c-in-Named
returns-in_ok-c-in-Named c = named_arm _ _ _ _ _ c.in-Named.is c.in_ok-c-in-Named.ensures

pub returns-in_ok-c-in-Reference : goal.returns-in_ok-c-in-Reference
returns-in_ok-c-in-Reference c = reference_arm _ _ _ _ _ _ c.in-Reference.is c.in_ok-c-in-Reference.ensures
