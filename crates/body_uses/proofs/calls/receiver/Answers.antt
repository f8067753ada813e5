use Rattle.std.proofs.Common.{◌∙◌, arith}
use Rattle.body_uses.proofs.CallLaws.{receiver_is}
use Rattle.body_uses.proofs.calls.receiver.Goals as goal

pub returns-in-len1-up : goal.returns-in-len1-up
returns-in-len1-up c =
    let l = c.in-len1-up.len_at_least in
    c.last_kind.ensures ∙ receiver_is c.args.kind.now c.args.selectors.now _ (omega (arith, l))
