use Rattle.std.proofs.Common.{ap, sym, ◌∙◌}
use Rattle.std.proofs.lemmas.Result.{err_from_is_err_and}
use Rattle.st_tree.specs.Statement.{statements_of}
use Rattle.st_check_expr.proofs.WholeLaws.{nothing_broken, broken_first}
use Rattle.st_check_body.proofs.body.check_body.Goals as goal

pub returns-in_err-x-clause-err : goal.returns-in_err-x-clause-err
returns-in_err-x-clause-err c = let p = err_from_is_err_and c.from_residual.result c.from_residual.ensures.1 in rw (p.1, p.2) tt

pub returns-in-None-clause-ok : goal.returns-in-None-clause-ok
returns-in-None-clause-ok c = (nothing_broken _ (sym c.in_ok-x.ensures.broken ∙ c.in-None.is), ap statements_of c.into_statements.ensures ∙ c.in_ok-x.ensures.tree c.in-None.is)

pub returns-in-Some-clause-err : goal.returns-in-Some-clause-err
returns-in-Some-clause-err c = broken_first _ _ (sym c.in_ok-x.ensures.broken ∙ c.in-Some.is)
