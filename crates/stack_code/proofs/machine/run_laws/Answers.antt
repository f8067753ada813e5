use Rattle.stack_code.specs.Machine.{body_begun, hook_begun}
use Rattle.stack_code.proofs.OneResult.{one_result}
use Rattle.stack_code.proofs.machine.run_laws.Goals as goal

pub returns-clause-bodies : goal.returns-clause-bodies
returns-clause-bodies c = λ code regions entry now ticks. one_result code now regions (body_begun code regions entry ticks)

pub returns-clause-hooks : goal.returns-clause-hooks
returns-clause-hooks c = λ code regions k own first second ticks. one_result code 0 regions (hook_begun code regions k own first second ticks)
