use Rattle.std.proofs.Common.{refl}
use Rattle.st_check_body.proofs.st_body_parts.LabelLaws.{range_arm, range_of, single_arm, single_of}
use Rattle.st_check_body.proofs.st_body_parts.labels.check_label.Goals as goal

pub returns-in_ok-last-in-Some : goal.returns-in_ok-last-in-Some
returns-in_ok-last-in-Some c = range_arm _ _ _ _ _ _ _ c.in_ok-first.ensures c.in-Some.is c.in_ok-last-in-Some.ensures c.earlier-found.ensures (range_of _ _ _ _ c.into_end.ensures c.into_end-in-Some.ensures)

pub returns-in-None : goal.returns-in-None
returns-in-None c = single_arm _ _ _ _ _ c.in_ok-first.ensures c.in-None.is refl (single_of _ _ c.into_end-in-None.ensures)
