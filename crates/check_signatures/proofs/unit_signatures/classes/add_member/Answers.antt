use Rattle.check_signatures.proofs.unit_signatures.RoutineLaws.{method_added, section_adds_none}
use Rattle.check_signatures.proofs.unit_signatures.classes.add_member.Goals as goal

pub returns-in_ok-push-in-Method : goal.returns-in_ok-push-in-Method
returns-in_ok-push-in-Method c = method_added c.args.weighed.now _ _ _ _ _ _ c.in-Method.method _ _ c.in-Method.is c.as_slice-sections.ensures c.in_ok-one-in-Method.ensures c.in_ok-push-in-Method.ensures.ok

pub returns-in-Section : goal.returns-in-Section
returns-in-Section c = section_adds_none c.args.weighed.now _ _ _ _ _ c.in-Section.is
