use Rattle.std.proofs.Common.{◌≡◌}
use Rattle.std.proofs.lemmas.Result.{err_from_is_err_and}
use Rattle.st_tree.specs.declared.terminal.Terminal.TheVariants as x
use Rattle.st_parser_decl.specs.Private.Rules as w
use Rattle.st_parser_decl.proofs.Steps as r
use Rattle.st_parser_decl.proofs.configuration.configuration.Goals as goal

pub returns-in_err-sign-clause-err : goal.returns-in_err-sign-clause-err
unfolding w.configuration
returns-in_err-sign-clause-err c = let p = err_from_is_err_and c.from_residual.result c.from_residual.ensures.1 in rw (p.1, p.2) (r.fails_here c.in_err-sign.ensures.err)

pub returns-in_err-name-clause-err : goal.returns-in_err-name-clause-err
unfolding w.configuration
returns-in_err-name-clause-err c = let p = err_from_is_err_and c.from_residual-in_err-name.result c.from_residual-in_err-name.ensures.1 in rw (p.1, p.2) (r.fails_behind c.in_ok-sign.ensures.ok (r.fails_here c.in_err-name.ensures.err))

pub returns-in_err-globals-clause-err : goal.returns-in_err-globals-clause-err
unfolding w.configuration
returns-in_err-globals-clause-err c = let p = err_from_is_err_and c.from_residual-in_err-globals.result c.from_residual-in_err-globals.ensures.1 in rw (p.1, p.2) (r.fails_behind c.in_ok-sign.ensures.ok (r.fails_behind c.in_ok-name.ensures.ok (r.fails_here c.in_err-globals.ensures.err)))

pub returns-in_err-inner-clause-err : goal.returns-in_err-inner-clause-err
unfolding w.configuration
returns-in_err-inner-clause-err c = let p = err_from_is_err_and c.from_residual-in_err-inner.result c.from_residual-in_err-inner.ensures.1 in rw (p.1, p.2) (r.fails_behind c.in_ok-sign.ensures.ok (r.fails_behind c.in_ok-name.ensures.ok (r.fails_behind c.in_ok-globals.ensures.ok (r.fails_here c.in_err-inner.ensures.err))))

pub returns-in_err-sign-2-clause-err : goal.returns-in_err-sign-2-clause-err
unfolding w.configuration
returns-in_err-sign-2-clause-err c = let p = err_from_is_err_and c.from_residual-in_err-sign-2.result c.from_residual-in_err-sign-2.ensures.1 in rw (p.1, p.2) (r.fails_behind c.in_ok-sign.ensures.ok (r.fails_behind c.in_ok-name.ensures.ok (r.fails_behind c.in_ok-globals.ensures.ok (r.fails_behind c.in_ok-inner.ensures.ok c.in_err-sign-2.ensures.err))))

pub returns-clause-ok : goal.returns-clause-ok
unfolding w.configuration
returns-clause-ok c =
    let held : c.new-inner.result ≡ c.in_ok-inner.inner = c.new-inner.ensures in
    let taken : c.into_inner-inner.result ≡ c.new-inner.result = c.into_inner-inner.ensures in
    rw (taken, held) (r.parses_at x.Configuration _ c.line-line.ensures (r.behind c.in_ok-sign.ensures.ok (r.behind c.in_ok-name.ensures.ok (r.behind c.in_ok-globals.ensures.ok (r.behind c.in_ok-inner.ensures.ok c.in_ok-sign-2.ensures.ok)))))
