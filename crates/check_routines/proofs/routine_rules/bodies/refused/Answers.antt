use Rattle.std.proofs.Common.{refl}
use Rattle.check_routines.proofs.routine_rules.RoutineLaws.{refused_is}
use Rattle.check_routines.proofs.routine_rules.bodies.refused.Goals as goal

pub returns-in-Rule : goal.returns-in-Rule
returns-in-Rule c = refused_is _ _ _ _ c.in-Rule.is refl
