use Rattle.std.proofs.lemmas.Result.{err_from_is_err_and}
use Rattle.st_parser_decl.proofs.Steps as r
use Rattle.st_parser_decl.proofs.leaf.expression.Goals as goal

pub returns-in_err-value-clause-err : goal.returns-in_err-value-clause-err
returns-in_err-value-clause-err c = let p = err_from_is_err_and c.from_residual.result c.from_residual.ensures.1 in rw (p.1, p.2) (r.expression_fails c.in_err-value.ensures.err)

pub returns-clause-ok : goal.returns-clause-ok
returns-clause-ok c = r.expression_parses _ c.in_ok-value.ensures.ok
