use Rattle.std.proofs.lemmas.Result.{err_from_is_err_and}
use Rattle.st_parser_stmt.proofs.Rules as r
use Rattle.st_parser_stmt.proofs.leaf.arguments.Goals as goal

pub returns-clause-ok : goal.returns-clause-ok
returns-clause-ok c = r.reads-arguments _ _ _ c.in_ok-found.ensures.ok

pub returns-in_err-found-clause-err : goal.returns-in_err-found-clause-err
returns-in_err-found-clause-err c =
    let p = err_from_is_err_and c.from_residual.result c.from_residual.ensures.1 in
    rw (p.1, p.2) (r.arguments-fail c.args.tokens.now _ c.in_err-found.ensures.err)
