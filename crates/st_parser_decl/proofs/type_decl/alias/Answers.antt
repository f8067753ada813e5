use Rattle.std.proofs.lemmas.Result.{err_from_is_err_and}
use Rattle.st_parser_decl.specs.Private.Rules as w
use Rattle.st_parser_decl.proofs.Steps as r
use Rattle.st_parser_decl.proofs.type_decl.alias.Goals as goal

pub returns-in_err-spec-clause-err : goal.returns-in_err-spec-clause-err
unfolding w.alias
returns-in_err-spec-clause-err c = let p = err_from_is_err_and c.from_residual.result c.from_residual.ensures.1 in rw (p.1, p.2) (r.fails_here c.in_err-spec.ensures.err)

pub returns-in_err-sign-clause-err : goal.returns-in_err-sign-clause-err
unfolding w.alias
returns-in_err-sign-clause-err c = let p = err_from_is_err_and c.from_residual-in_err-sign.result c.from_residual-in_err-sign.ensures.1 in rw (p.1, p.2) (r.fails_behind c.in_ok-spec.ensures.ok c.in_err-sign.ensures.err)

pub returns-clause-ok : goal.returns-clause-ok
unfolding w.alias
returns-clause-ok c = r.behind c.in_ok-spec.ensures.ok c.in_ok-sign.ensures.ok
