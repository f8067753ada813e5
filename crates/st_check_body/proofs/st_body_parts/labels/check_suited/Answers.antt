use Rattle.std.proofs.Common.{refl}
use Rattle.st_check_body.proofs.st_body_parts.EndLaws.{suited}
use Rattle.st_check_body.proofs.st_body_parts.labels.check_suited.Goals as goal

pub returns : goal.returns
returns c = suited _ _ _ _ _ _ _ c.in_ok-one.ensures c.end_line.ensures c.value_fault-own.ensures c.earlier-found.ensures refl
