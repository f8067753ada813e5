use Rattle.st_check_body.proofs.st_body_parts.LimitLaws.{index_next, index_end}
use Rattle.st_check_body.proofs.st_body_parts.limits.indices_limit.Goals as goal

pub loop-index-preserved : goal.loop-index-preserved
loop-index-preserved c = index_next _ _ _ _ c.earlier-found.ensures _ _ _ c.loop-index-test.true c.index-item.is c.operators_fault.ensures c.loop-index.invariant

pub returns : goal.returns
returns c = index_end _ _ _ _ c.loop-index-test.false c.loop-index.invariant
