use Rattle.std.proofs.Common.{sym, ◌∙◌}
use lib.Pointwise.{pointwise_decides}
use Rattle.stack_code.proofs.valid_code.KindLaws.{kind_decides}
use Rattle.stack_code.proofs.valid_code.kinds.same.Goals as goal

pub returns : goal.returns
returns c =
    let both = pointwise_decides kind_decides c.args.a.now c.args.b.now in
    (λ t. both.0 (sym c.eq.ensures ∙ t), λ e. c.eq.ensures ∙ both.1 e)
