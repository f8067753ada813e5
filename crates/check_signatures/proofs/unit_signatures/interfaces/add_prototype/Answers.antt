use Rattle.check_signatures.proofs.unit_signatures.RoutineLaws.{prototype_added}
use Rattle.check_signatures.proofs.unit_signatures.interfaces.add_prototype.Goals as goal

pub returns : goal.returns
returns c = prototype_added c.args.weighed.now _ _ _ _ c.args.method.now _ _ c.as_slice-sections.ensures c.in_ok-one.ensures c.in_ok-push.ensures.ok
