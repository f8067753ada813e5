use Rattle.std.proofs.Common.{refl}
use Rattle.st_check_body.proofs.st_body_parts.AssignLaws.{target_arm}
use Rattle.st_check_body.proofs.st_body_parts.assignments.check_target.Goals as goal

pub returns : goal.returns
returns c = target_arm _ _ _ _ _ _ _ _ _ _ c.as_slice-selectors.ensures c.in_ok-x.ensures c.whole_fault.ensures c.selectors_limit.ensures c.target_fault.ensures c.earlier-whole.ensures c.earlier-limited.ensures c.earlier-found.ensures refl
