use Rattle.st_check_body.proofs.st_body_parts.LimitLaws.{selector_next, selector_end}
use Rattle.st_check_body.proofs.st_body_parts.limits.selectors_limit.Goals as goal

pub loop-selector-preserved : goal.loop-selector-preserved
loop-selector-preserved c = selector_next _ _ _ _ c.earlier-found.ensures _ _ _ c.loop-selector-test.true c.selector-item.is c.selector_limit.ensures c.loop-selector.invariant

pub returns : goal.returns
returns c = selector_end _ _ _ _ c.loop-selector-test.false c.loop-selector.invariant
