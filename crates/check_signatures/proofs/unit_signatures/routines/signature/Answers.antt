use Rattle.check_signatures.proofs.unit_signatures.RoutineLaws.{signature_told}
use Rattle.check_signatures.proofs.unit_signatures.routines.signature.Goals as goal

pub returns : goal.returns
returns c = signature_told _ _ _ _ _ _ _ _ c.in_ok-outcome.ensures c.in_ok-parameters.ensures
