use Rattle.std.proofs.lemmas.Result.{err_from_is_err_and}
use Rattle.st_parser_decl.specs.Private.Rules as w
use Rattle.st_parser_decl.proofs.Steps as r
use Rattle.st_parser_decl.proofs.type_decl.type_decl.Goals as goal

pub returns-in_err-name-clause-err : goal.returns-in_err-name-clause-err
unfolding w.type_decl
returns-in_err-name-clause-err c = let p = err_from_is_err_and c.from_residual.result c.from_residual.ensures.1 in rw (p.1, p.2) (r.fails_here c.in_err-name.ensures.err)

pub returns-in_err-sign-clause-err : goal.returns-in_err-sign-clause-err
unfolding w.type_decl
returns-in_err-sign-clause-err c = let p = err_from_is_err_and c.from_residual-in_err-sign.result c.from_residual-in_err-sign.ensures.1 in rw (p.1, p.2) (r.fails_behind c.in_ok-name.ensures.ok (r.fails_here c.in_err-sign.ensures.err))

pub returns-in_err-body-clause-err : goal.returns-in_err-body-clause-err
unfolding w.type_decl
returns-in_err-body-clause-err c = let p = err_from_is_err_and c.from_residual-in_err-body.result c.from_residual-in_err-body.ensures.1 in rw (p.1, p.2) (r.fails_behind c.in_ok-name.ensures.ok (r.fails_behind c.in_ok-sign.ensures.ok c.in_err-body.ensures.err))

pub returns-clause-ok : goal.returns-clause-ok
unfolding w.type_decl
returns-clause-ok c = r.behind c.in_ok-name.ensures.ok (r.behind c.in_ok-sign.ensures.ok c.in_ok-body.ensures.ok)
