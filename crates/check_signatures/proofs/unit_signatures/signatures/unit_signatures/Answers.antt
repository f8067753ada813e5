use Rattle.check_signatures.proofs.unit_signatures.UnitLaws.{unit_told_as}
use Rattle.check_signatures.proofs.unit_signatures.signatures.unit_signatures.Goals as goal

pub returns : goal.returns
returns c = unit_told_as _ _ _ _ _ _ c.deref.ensures.value c.in_ok-list.ensures c.in_ok-signatures.ensures
