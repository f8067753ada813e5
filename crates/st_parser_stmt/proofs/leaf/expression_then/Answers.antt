use Rattle.std.proofs.Common.{◌≡◌}
use Rattle.std.proofs.lemmas.Result.{err_from_is_err_and}
use Rattle.st_parser_stmt.proofs.Rules as r
use Rattle.st_parser_stmt.proofs.leaf.expression_then.Goals as goal

pub returns-in_err-value-clause-err : goal.returns-in_err-value-clause-err
returns-in_err-value-clause-err c =
    let p = err_from_is_err_and c.from_residual.result c.from_residual.ensures.1 in
    rw (p.1, p.2) (r.then-fails c.args.terminal c.args.tokens.now _ c.in_err-value.ensures.err)

pub returns-in_err-sign-clause-err : goal.returns-in_err-sign-clause-err
returns-in_err-sign-clause-err c =
    let p = err_from_is_err_and c.from_residual-in_err-sign.result c.from_residual-in_err-sign.ensures.1 in
    rw (p.1, p.2) (r.then-sign-fails _ c.args.terminal c.args.tokens.now c.expression.new.tokens _ c.in_ok-value.ensures.ok c.in_err-sign.ensures.err)

pub returns-clause-ok : goal.returns-clause-ok
returns-clause-ok c =
    let e : c.new-held.result ≡ c.in_ok-value.value = c.new-held.ensures in
    rw e (r.reads-then _ _ _ _ _ c.in_ok-value.ensures.ok c.in_ok-sign.ensures.ok)
