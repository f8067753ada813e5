use Rattle.std.proofs.Common.{reverse}
use Rattle.stack_code.specs.valid_code.Private.Entered.{methods_at}
use Rattle.stack_code.proofs.valid_code.SplitLaws.{when_ok}
use Rattle.stack_code.proofs.valid_code.FineLaws.{fine_method}
use Rattle.stack_code.proofs.valid_code.rules.is_method_call.Goals as goal

pub returns-clause-fine : goal.returns-clause-fine
returns-clause-fine c = when_ok c.is_call.result c.is_call.ensures (λ b e. fine_method c.args.code.now c.args.routine.now c.args.at c.args.n (reverse c.args.kinds.now) b c.args.target c.args.slot (e (methods_at c.args.code.now c.args.target c.args.slot) c.in_ok-common.ensures.common))
