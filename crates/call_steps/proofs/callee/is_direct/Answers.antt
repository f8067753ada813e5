use Rattle.std.proofs.Common.{◌∙◌}
use Rattle.call_steps.proofs.CalleeLaws.{none_direct}
use Rattle.call_steps.proofs.callee.is_direct.Goals as goal

pub returns : goal.returns
returns c = none_direct c.selectors.left.now c.in_default.ensures.cases ∙ c.selectors.invariant
