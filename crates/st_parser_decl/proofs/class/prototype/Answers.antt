use Rattle.std.proofs.Common.{◌≡◌}
use Rattle.std.proofs.lemmas.Result.{err_from_is_err_and}
use Rattle.st_tree.specs.declared.terminal.Terminal.TheVariants as x
use Rattle.st_parser_decl.specs.Private.Rules as w
use Rattle.st_parser_decl.proofs.Steps as r
use Rattle.st_parser_decl.proofs.class.prototype.Goals as goal

pub returns-in_err-sign-clause-err : goal.returns-in_err-sign-clause-err
unfolding w.prototype
returns-in_err-sign-clause-err c = let p = err_from_is_err_and c.from_residual.result c.from_residual.ensures.1 in rw (p.1, p.2) (r.fails_here c.in_err-sign.ensures.err)

pub returns-in_err-name-clause-err : goal.returns-in_err-name-clause-err
unfolding w.prototype
returns-in_err-name-clause-err c = let p = err_from_is_err_and c.from_residual-in_err-name.result c.from_residual-in_err-name.ensures.1 in rw (p.1, p.2) (r.fails_behind c.in_ok-sign.ensures.ok (r.fails_here c.in_err-name.ensures.err))

pub returns-in_err-result-clause-err : goal.returns-in_err-result-clause-err
unfolding w.prototype
returns-in_err-result-clause-err c = let p = err_from_is_err_and c.from_residual-in_err-result.result c.from_residual-in_err-result.ensures.1 in rw (p.1, p.2) (r.fails_behind c.in_ok-sign.ensures.ok (r.fails_behind c.in_ok-name.ensures.ok (r.fails_here c.in_err-result.ensures.err)))

pub returns-in_err-sections-clause-err : goal.returns-in_err-sections-clause-err
unfolding w.prototype
returns-in_err-sections-clause-err c = let p = err_from_is_err_and c.from_residual-in_err-sections.result c.from_residual-in_err-sections.ensures.1 in rw (p.1, p.2) (r.fails_behind c.in_ok-sign.ensures.ok (r.fails_behind c.in_ok-name.ensures.ok (r.fails_behind c.in_ok-result.ensures.ok (r.fails_behind c.may_semicolon.ensures (r.fails_here c.in_err-sections.ensures.err)))))

pub returns-in_err-sign-2-clause-err : goal.returns-in_err-sign-2-clause-err
unfolding w.prototype
returns-in_err-sign-2-clause-err c = let p = err_from_is_err_and c.from_residual-in_err-sign-2.result c.from_residual-in_err-sign-2.ensures.1 in rw (p.1, p.2) (r.fails_behind c.in_ok-sign.ensures.ok (r.fails_behind c.in_ok-name.ensures.ok (r.fails_behind c.in_ok-result.ensures.ok (r.fails_behind c.may_semicolon.ensures (r.fails_behind c.in_ok-sections.ensures.ok c.in_err-sign-2.ensures.err)))))

pub returns-clause-ok : goal.returns-clause-ok
unfolding w.prototype
returns-clause-ok c =
    let held_outcome : c.new-result.result ≡ c.in_ok-result.result = c.new-result.ensures in
    let outcome : c.into_inner-result.result ≡ c.new-result.result = c.into_inner-result.ensures in
    rw (outcome, held_outcome) (r.parses_at x.Method _ c.line-line.ensures (r.behind c.in_ok-sign.ensures.ok (r.behind c.in_ok-name.ensures.ok (r.behind c.in_ok-result.ensures.ok (r.behind c.may_semicolon.ensures (r.behind c.in_ok-sections.ensures.ok c.in_ok-sign-2.ensures.ok))))))
