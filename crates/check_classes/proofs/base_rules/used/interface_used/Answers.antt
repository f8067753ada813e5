use Rattle.check_classes.proofs.base_rules.UsedLaws.{used_interface}
use Rattle.check_classes.proofs.base_rules.used.interface_used.Goals as goal

pub returns : goal.returns
returns c = used_interface c.args.classes.now.decls _ _ _ c.interface_meant-kind.ensures c.in_ok-found.ensures
