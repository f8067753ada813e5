use Rattle.st_check_expr.proofs.WholeLaws.{whole_least}
use Rattle.st_check_expr.proofs.expression.check_whole.Goals as goal

pub returns : goal.returns
returns c = record {
  told = c.in_ok-x.ensures.told;
  least = whole_least _ _ _ _ _ _ _ _ _ c.in_ok-x.ensures c.line_of.ensures c.value_fault-of_value.ensures c.earlier-inner.ensures c.operators_fault.ensures c.earlier-x.ensures;
  tree = c.in_ok-x.ensures.tree;
}
