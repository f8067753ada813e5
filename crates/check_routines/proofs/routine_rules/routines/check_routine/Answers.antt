use Rattle.check_routines.proofs.routine_rules.RoutineLaws.{routine_checks}
use Rattle.check_routines.proofs.routine_rules.routines.check_routine.Goals as goal

pub returns : goal.returns
returns c = routine_checks _ _ _ _ _ _ _ _ _ _ _ _ _ c.requires.locals c.requires.parts.sizes c.in_ok-variables.ensures c.locals_fault-many.ensures c.in_ok-body.ensures c.routine_of.ensures
