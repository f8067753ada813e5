use Rattle.std.proofs.Common.{◌≡◌}
use Rattle.std.proofs.lemmas.Result.{err_from_is_err_and}
use Rattle.st_parser_stmt.proofs.Rules as r
use Rattle.st_parser_stmt.proofs.statement.heading.Goals as goal

pub returns-in_err-name-clause-err : goal.returns-in_err-name-clause-err
returns-in_err-name-clause-err c =
    let p = err_from_is_err_and c.from_residual.result c.from_residual.ensures.1 in
    rw (p.1, p.2) (r.control-fails-name c.args.tokens.now _ c.in_err-name.ensures.err)

pub returns-in_err-sign-clause-err : goal.returns-in_err-sign-clause-err
returns-in_err-sign-clause-err c =
    let p = err_from_is_err_and c.from_residual-in_err-sign.result c.from_residual-in_err-sign.ensures.1 in
    rw (p.1, p.2) (r.control-fails-assign _ c.args.tokens.now c.word.new.tokens _ c.in_ok-name.ensures.ok c.in_err-sign.ensures.err)

pub returns-in_err-from-clause-err : goal.returns-in_err-from-clause-err
returns-in_err-from-clause-err c =
    let p = err_from_is_err_and c.from_residual-in_err-from.result c.from_residual-in_err-from.ensures.1 in
    rw (p.1, p.2) (r.control-fails-from _ c.args.tokens.now c.word.new.tokens c.sign.new.tokens _ c.in_ok-name.ensures.ok c.in_ok-sign.ensures.ok c.in_err-from.ensures.err)

pub returns-in_err-to-clause-err : goal.returns-in_err-to-clause-err
returns-in_err-to-clause-err c =
    let p = err_from_is_err_and c.from_residual-in_err-to.result c.from_residual-in_err-to.ensures.1 in
    rw (p.1, p.2) (r.control-fails-to _ _ c.args.tokens.now c.word.new.tokens c.sign.new.tokens c.expression_then.new.tokens _ c.in_ok-name.ensures.ok c.in_ok-sign.ensures.ok c.in_ok-from.ensures.ok c.in_err-to.ensures.err)

pub returns-in_err-by-clause-err : goal.returns-in_err-by-clause-err
returns-in_err-by-clause-err c =
    let p = err_from_is_err_and c.from_residual-in_err-by.result c.from_residual-in_err-by.ensures.1 in
    rw (p.1, p.2) (r.control-fails-step _ _ _ c.args.tokens.now c.word.new.tokens c.sign.new.tokens c.expression_then.new.tokens c.expression.new.tokens _ c.in_ok-name.ensures.ok c.in_ok-sign.ensures.ok c.in_ok-from.ensures.ok c.in_ok-to.ensures.ok c.in_err-by.ensures.err)

pub returns-clause-ok : goal.returns-clause-ok
returns-clause-ok c =
    let to : c.new-to.result ≡ c.in_ok-to.to = c.new-to.ensures in
    let by : c.new-by.result ≡ c.in_ok-by.by = c.new-by.ensures in
    rw (to, by) (r.reads-control (record { note = c.line-note.result; name = c.in_ok-name.name; from = c.in_ok-from.from; to = c.in_ok-to.to; by = c.in_ok-by.by }) _ _ _ _ _ _ c.line-note.ensures c.in_ok-name.ensures.ok c.in_ok-sign.ensures.ok c.in_ok-from.ensures.ok c.in_ok-to.ensures.ok c.in_ok-by.ensures.ok)
