use Rattle.std.proofs.Common.{◌≡◌}
use Rattle.std.proofs.lemmas.Result.{err_from_is_err_and}
use Rattle.st_tree.specs.declared.terminal.Terminal.TheVariants as x
use Rattle.st_parser_decl.specs.Private.Rules as w
use Rattle.st_parser_decl.proofs.Steps as r
use Rattle.st_parser_decl.proofs.class.class.Goals as goal

pub returns-in_err-sign-clause-err : goal.returns-in_err-sign-clause-err
unfolding w.class
returns-in_err-sign-clause-err c = let p = err_from_is_err_and c.from_residual.result c.from_residual.ensures.1 in rw (p.1, p.2) (r.fails_here c.in_err-sign.ensures.err)

pub returns-in_err-head-clause-err : goal.returns-in_err-head-clause-err
unfolding w.class
returns-in_err-head-clause-err c = let p = err_from_is_err_and c.from_residual-in_err-head.result c.from_residual-in_err-head.ensures.1 in rw (p.1, p.2) (r.fails_behind c.in_ok-sign.ensures.ok (r.fails_here c.in_err-head.ensures.err))

pub returns-in_err-members-clause-err : goal.returns-in_err-members-clause-err
unfolding w.class
returns-in_err-members-clause-err c = let p = err_from_is_err_and c.from_residual-in_err-members.result c.from_residual-in_err-members.ensures.1 in rw (p.1, p.2) (r.fails_behind c.in_ok-sign.ensures.ok (r.fails_behind c.in_ok-head.ensures.ok (r.fails_here c.in_err-members.ensures.err)))

pub returns-in_err-sign-2-clause-err : goal.returns-in_err-sign-2-clause-err
unfolding w.class
returns-in_err-sign-2-clause-err c = let p = err_from_is_err_and c.from_residual-in_err-sign-2.result c.from_residual-in_err-sign-2.ensures.1 in rw (p.1, p.2) (r.fails_behind c.in_ok-sign.ensures.ok (r.fails_behind c.in_ok-head.ensures.ok (r.fails_behind c.in_ok-members.ensures.ok c.in_err-sign-2.ensures.err)))

pub returns-clause-ok : goal.returns-clause-ok
unfolding w.class
returns-clause-ok c =
    let held : c.new-head.result ≡ c.in_ok-head.head = c.new-head.ensures in
    let taken : c.into_inner-head.result ≡ c.new-head.result = c.into_inner-head.ensures in
    rw (taken, held) (r.phrase_as (r.parses_at x.Class _ c.line-line.ensures (r.behind c.in_ok-sign.ensures.ok (r.behind c.in_ok-head.ensures.ok (r.behind c.in_ok-members.ensures.ok c.in_ok-sign-2.ensures.ok)))) (λ h. (h.0, (c.new-body.ensures, h.1))))
