use Rattle.std.proofs.Common.{refl}
use Rattle.check_routines.proofs.routine_rules.RoutineLaws.{body_good, body_bad}
use Rattle.check_routines.proofs.routine_rules.bodies.body_found.Goals as goal

pub returns-in-Ok : goal.returns-in-Ok
returns-in-Ok c = body_good _ _ _ _ c.in-Ok.ensures.ok refl refl

pub returns-in_ok-c-in-Err : goal.returns-in_ok-c-in-Err
returns-in_ok-c-in-Err c = body_bad _ _ _ _ c.in-Err.ensures.err c.in_ok-c-in-Err.ensures
