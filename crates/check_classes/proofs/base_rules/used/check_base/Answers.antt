use Rattle.check_classes.proofs.base_rules.UsedLaws.{used_class}
use Rattle.check_classes.proofs.base_rules.used.check_base.Goals as goal

pub returns-in_ok-found-in-Some : goal.returns-in_ok-found-in-Some
returns-in_ok-found-in-Some c = used_class _ _ _ _ _ _ c.in-Some.is c.class_meant-kind.ensures c.in_ok-found-in-Some.ensures c.base_of.ensures
