use Rattle.check_classes.proofs.class_rules.ClassLaws.{class_checks}
use Rattle.check_classes.proofs.class_rules.classes.check_class.Goals as goal

pub returns : goal.returns
returns c = class_checks _ _ _ _ _ _ _ _ c.in_ok-heading.ensures c.in_ok-broken.ensures c.in_ok-found.ensures c.class_of.ensures
