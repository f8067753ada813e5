use Rattle.st_check_body.proofs.st_body_parts.LimitLaws.{argument_next, argument_end}
use Rattle.st_check_body.proofs.st_body_parts.limits.arguments_limit.Goals as goal

pub loop-argument-preserved : goal.loop-argument-preserved
loop-argument-preserved c = argument_next _ _ _ _ c.earlier-found.ensures _ _ _ c.loop-argument-test.true c.argument-item.is c.argument_limit.ensures c.loop-argument.invariant

pub returns : goal.returns
returns c = argument_end _ _ _ _ c.loop-argument-test.false c.loop-argument.invariant
