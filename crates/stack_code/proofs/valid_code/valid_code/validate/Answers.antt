use Rattle.std.proofs.Common.{refl}
use Rattle.stack_code.proofs.valid_code.valid_code.validate.Goals as goal

pub returns : goal.returns
returns c = (c.in_ok-is_valid.ensures.0 c.if-not-branch.false, refl)
