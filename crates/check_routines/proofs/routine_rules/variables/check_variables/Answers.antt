use Rattle.check_routines.proofs.routine_rules.RoutineLaws.{variables_check}
use Rattle.check_routines.proofs.routine_rules.variables.check_variables.Goals as goal

pub returns : goal.returns
returns c = variables_check _ _ _ _ _ _ _ _ _ _ c.in_ok-found.ensures c.in_ok-kind.ensures c.in_ok-limits.ensures c.variables_of.ensures
