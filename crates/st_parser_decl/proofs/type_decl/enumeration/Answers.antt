use Rattle.std.proofs.lemmas.Result.{err_from_is_err_and}
use Rattle.st_parser_decl.specs.Private.Rules as w
use Rattle.st_parser_decl.proofs.Steps as r
use Rattle.st_parser_decl.proofs.type_decl.enumeration.Goals as goal

pub returns-in_err-sign-clause-err : goal.returns-in_err-sign-clause-err
unfolding w.enumeration
returns-in_err-sign-clause-err c = let p = err_from_is_err_and c.from_residual.result c.from_residual.ensures.1 in rw (p.1, p.2) (r.fails_here c.in_err-sign.ensures.err)

pub returns-in_err-names-clause-err : goal.returns-in_err-names-clause-err
unfolding w.enumeration
returns-in_err-names-clause-err c = let p = err_from_is_err_and c.from_residual-in_err-names.result c.from_residual-in_err-names.ensures.1 in rw (p.1, p.2) (r.fails_behind c.in_ok-sign.ensures.ok (r.fails_here c.in_err-names.ensures.err))

pub returns-in_err-sign-2-clause-err : goal.returns-in_err-sign-2-clause-err
unfolding w.enumeration
returns-in_err-sign-2-clause-err c = let p = err_from_is_err_and c.from_residual-in_err-sign-2.result c.from_residual-in_err-sign-2.ensures.1 in rw (p.1, p.2) (r.fails_behind c.in_ok-sign.ensures.ok (r.fails_behind c.in_ok-names.ensures.ok (r.fails_here c.in_err-sign-2.ensures.err)))

pub returns-in_err-sign-3-clause-err : goal.returns-in_err-sign-3-clause-err
unfolding w.enumeration
returns-in_err-sign-3-clause-err c = let p = err_from_is_err_and c.from_residual-in_err-sign-3.result c.from_residual-in_err-sign-3.ensures.1 in rw (p.1, p.2) (r.fails_behind c.in_ok-sign.ensures.ok (r.fails_behind c.in_ok-names.ensures.ok (r.fails_behind c.in_ok-sign-2.ensures.ok c.in_err-sign-3.ensures.err)))

pub returns-clause-ok : goal.returns-clause-ok
unfolding w.enumeration
returns-clause-ok c = r.behind c.in_ok-sign.ensures.ok (r.behind c.in_ok-names.ensures.ok (r.behind c.in_ok-sign-2.ensures.ok c.in_ok-sign-3.ensures.ok))
