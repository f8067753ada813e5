use Rattle.std.proofs.Common.{sym, ap, ◌∙◌}
use Rattle.std.proofs.lemmas.Result.{err_from_is_err_and}
use Rattle.st_tree.specs.Expression.{expression_of}
use Rattle.st_check_expr.proofs.WholeLaws.{nothing_broken, broken_first}
use Rattle.st_check_expr.proofs.expression.check_expr.Goals as goal

pub returns-in_err-x-clause-err : goal.returns-in_err-x-clause-err
returns-in_err-x-clause-err c = let p = err_from_is_err_and c.from_residual.result c.from_residual.ensures.1 in rw (p.1, p.2) tt

pub returns-in-None-clause-ok : goal.returns-in-None-clause-ok
returns-in-None-clause-ok c = (nothing_broken _ (sym c.in_ok-x.ensures.least ∙ c.in-None.is), ap expression_of c.into_tree.ensures ∙ c.in_ok-x.ensures.tree)

pub returns-in-Some-clause-err : goal.returns-in-Some-clause-err
returns-in-Some-clause-err c = broken_first _ _ (sym c.in_ok-x.ensures.least ∙ c.in-Some.is)
