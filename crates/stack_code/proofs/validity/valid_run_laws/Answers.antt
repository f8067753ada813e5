use Rattle.stack_code.proofs.Ends.{bodies_finish, hooks_finish}
use Rattle.stack_code.proofs.validity.valid_run_laws.Goals as goal

pub returns-clause-bodies : goal.returns-clause-bodies
returns-clause-bodies c = bodies_finish

pub returns-clause-hooks : goal.returns-clause-hooks
returns-clause-hooks c = hooks_finish
