use Rattle.std.proofs.Common.{sym, ◌∙◌}
use Rattle.stack_code.proofs.valid_code.KindLists.{unturned}
use Rattle.stack_code.proofs.valid_code.rules.is_return.Goals as goal

pub returns-then-not-same : goal.returns-then-not-same
returns-then-not-same c = (λ t. absurd (cc), λ p. absurd (let t = c.same.ensures.1 (unturned c.args.kinds.now c.args.routine.now.rets p.0 ∙ sym c.as_slice.ensures) in cc))
