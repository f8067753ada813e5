use Rattle.std.proofs.Common.{reverse, [], ◌∷◌}
use Rattle.stack_code.proofs.valid_code.CallLaws.{shares_nothing}
use Rattle.stack_code.proofs.valid_code.SplitLaws.{when_ok}
use Rattle.stack_code.proofs.valid_code.FineLaws.{fine_routine}
use Rattle.stack_code.proofs.valid_code.rules.is_routine_call.Goals as goal

pub returns : goal.returns
returns c = when_ok c.is_call.result c.is_call.ensures (λ b e. fine_routine c.args.code.now c.args.routine.now c.args.at c.args.n (reverse c.args.kinds.now) b c.args.k (e (c.args.k ∷ []) (c.with_routine-common.ensures [] (shares_nothing c.args.code.now))))
