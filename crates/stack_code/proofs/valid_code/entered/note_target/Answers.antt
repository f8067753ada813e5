use Rattle.std.proofs.Common.{subst, sym}
use Rattle.stack_code.specs.valid_code.Private.Calls.{Shares}
use Rattle.stack_code.proofs.valid_code.EnteredLaws.{target_noted}
use Rattle.stack_code.proofs.valid_code.entered.note_target.Goals as goal

pub returns : goal.returns
returns c =
    target_noted c.args.code.now c.args.commons.now c.note_common.new.commons c.args.entry c.with_target-common.result
    (λ ks s. c.with_target-common.ensures ks (subst (Shares c.args.code.now ks) (sym c.common_at.ensures) s))
    (λ q. c.in_ok-note_common.ensures q)
