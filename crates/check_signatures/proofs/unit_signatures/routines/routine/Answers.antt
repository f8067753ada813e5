use Rattle.check_signatures.proofs.unit_signatures.ScopeLaws.{routine_is}
use Rattle.check_signatures.proofs.unit_signatures.RoutineLaws.{routine_told}
use Rattle.check_signatures.proofs.unit_signatures.routines.routine.Goals as goal

pub returns : goal.returns
returns c = routine_told _ _ _ _ _ _ _ _ _ _ (routine_is _ _ _ _ _ _ _ _ _ c.in_ok-locals.ensures c.as_slice.ensures c.in_ok-s.ensures) c.in_ok-told.ensures
