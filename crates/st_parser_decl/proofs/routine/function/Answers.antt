use Rattle.std.proofs.Common.{◌≡◌, refl}
use Rattle.std.proofs.lemmas.Result.{err_from_is_err_and}
use Rattle.st_tree.specs.declared.terminal.Terminal.TheVariants as x
use Rattle.st_parser_decl.specs.Private.Rules as w
use Rattle.st_parser_decl.proofs.Steps as r
use Rattle.st_parser_decl.proofs.routine.function.Goals as goal

pub returns-in_err-sign-clause-err : goal.returns-in_err-sign-clause-err
unfolding w.function
returns-in_err-sign-clause-err c = let p = err_from_is_err_and c.from_residual.result c.from_residual.ensures.1 in rw (p.1, p.2) (r.fails_here c.in_err-sign.ensures.err)

pub returns-in_err-name-clause-err : goal.returns-in_err-name-clause-err
unfolding w.function
returns-in_err-name-clause-err c = let p = err_from_is_err_and c.from_residual-in_err-name.result c.from_residual-in_err-name.ensures.1 in rw (p.1, p.2) (r.fails_behind c.in_ok-sign.ensures.ok (r.fails_here c.in_err-name.ensures.err))

pub returns-in_err-result-clause-err : goal.returns-in_err-result-clause-err
unfolding w.function
returns-in_err-result-clause-err c = let p = err_from_is_err_and c.from_residual-in_err-result.result c.from_residual-in_err-result.ensures.1 in rw (p.1, p.2) (r.fails_behind c.in_ok-sign.ensures.ok (r.fails_behind c.in_ok-name.ensures.ok (r.fails_here c.in_err-result.ensures.err)))

pub returns-in_err-sections-clause-err : goal.returns-in_err-sections-clause-err
unfolding w.function
returns-in_err-sections-clause-err c = let p = err_from_is_err_and c.from_residual-in_err-sections.result c.from_residual-in_err-sections.ensures.1 in rw (p.1, p.2) (r.fails_behind c.in_ok-sign.ensures.ok (r.fails_behind c.in_ok-name.ensures.ok (r.fails_behind c.in_ok-result.ensures.ok (r.fails_behind c.may_semicolon.ensures (r.fails_here c.in_err-sections.ensures.err)))))

pub returns-in_err-body-clause-err : goal.returns-in_err-body-clause-err
unfolding w.function
returns-in_err-body-clause-err c = let p = err_from_is_err_and c.from_residual-in_err-body.result c.from_residual-in_err-body.ensures.1 in rw (p.1, p.2) (r.fails_behind c.in_ok-sign.ensures.ok (r.fails_behind c.in_ok-name.ensures.ok (r.fails_behind c.in_ok-result.ensures.ok (r.fails_behind c.may_semicolon.ensures (r.fails_behind c.in_ok-sections.ensures.ok (r.body_fails x.EndFunction tt (refl, tt) c.in_err-body.ensures.err))))))

pub returns-clause-ok : goal.returns-clause-ok
unfolding w.function
returns-clause-ok c =
    let held_outcome : c.new-result.result ≡ c.in_ok-result.result = c.new-result.ensures in
    let outcome : c.into_inner-result.result ≡ c.new-result.result = c.into_inner-result.ensures in
    rw (outcome, held_outcome) (r.parses_at x.Function _ c.line-line.ensures (r.behind c.in_ok-sign.ensures.ok (r.behind c.in_ok-name.ensures.ok (r.behind c.in_ok-result.ensures.ok (r.behind c.may_semicolon.ensures (r.behind c.in_ok-sections.ensures.ok (r.body_parses x.EndFunction tt (refl, tt) _ c.in_ok-body.ensures.ok)))))))
