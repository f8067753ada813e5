use Rattle.std.proofs.Common.{reverse, subst, sym}
use Rattle.stack_code.specs.valid_code.Private.Calls.{Shares}
use Rattle.stack_code.specs.valid_code.Private.Entered.{targets_of}
use Rattle.stack_code.proofs.valid_code.SplitLaws.{when_ok}
use Rattle.stack_code.proofs.valid_code.FineLaws.{fine_target}
use Rattle.stack_code.proofs.valid_code.rules.is_interface_call.Goals as goal

pub returns : goal.returns
returns c =
    let code = c.args.code.now in
    let table = targets_of code.targets code.targets c.args.interface c.args.method in
    when_ok c.is_call.result c.is_call.ensures (λ b e. fine_target code c.args.routine.now c.args.at c.args.n (reverse c.args.kinds.now) b c.args.interface c.args.method
    (e table (subst (Shares code table) (sym c.target_common-common.ensures) (c.requires.known.targets-are c.args.interface c.args.method))))
