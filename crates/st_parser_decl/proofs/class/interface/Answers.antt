use Rattle.std.proofs.lemmas.Result.{err_from_is_err_and}
use Rattle.st_tree.specs.declared.terminal.Terminal.TheVariants as x
use Rattle.st_parser_decl.specs.Private.Rules as w
use Rattle.st_parser_decl.proofs.Steps as r
use Rattle.st_parser_decl.proofs.class.interface.Goals as goal

pub returns-in_err-sign-clause-err : goal.returns-in_err-sign-clause-err
unfolding w.interface
returns-in_err-sign-clause-err c = let p = err_from_is_err_and c.from_residual.result c.from_residual.ensures.1 in rw (p.1, p.2) (r.fails_here c.in_err-sign.ensures.err)

pub returns-in_err-name-clause-err : goal.returns-in_err-name-clause-err
unfolding w.interface
returns-in_err-name-clause-err c = let p = err_from_is_err_and c.from_residual-in_err-name.result c.from_residual-in_err-name.ensures.1 in rw (p.1, p.2) (r.fails_behind c.in_ok-sign.ensures.ok (r.fails_here c.in_err-name.ensures.err))

pub returns-in_err-bases-clause-err : goal.returns-in_err-bases-clause-err
unfolding w.interface
returns-in_err-bases-clause-err c = let p = err_from_is_err_and c.from_residual-in_err-bases.result c.from_residual-in_err-bases.ensures.1 in rw (p.1, p.2) (r.fails_behind c.in_ok-sign.ensures.ok (r.fails_behind c.in_ok-name.ensures.ok (r.fails_here c.in_err-bases.ensures.err)))

pub returns-in_err-methods-clause-err : goal.returns-in_err-methods-clause-err
unfolding w.interface
returns-in_err-methods-clause-err c = let p = err_from_is_err_and c.from_residual-in_err-methods.result c.from_residual-in_err-methods.ensures.1 in rw (p.1, p.2) (r.fails_behind c.in_ok-sign.ensures.ok (r.fails_behind c.in_ok-name.ensures.ok (r.fails_behind c.in_ok-bases.ensures.ok (r.fails_here c.in_err-methods.ensures.err))))

pub returns-in_err-sign-2-clause-err : goal.returns-in_err-sign-2-clause-err
unfolding w.interface
returns-in_err-sign-2-clause-err c = let p = err_from_is_err_and c.from_residual-in_err-sign-2.result c.from_residual-in_err-sign-2.ensures.1 in rw (p.1, p.2) (r.fails_behind c.in_ok-sign.ensures.ok (r.fails_behind c.in_ok-name.ensures.ok (r.fails_behind c.in_ok-bases.ensures.ok (r.fails_behind c.in_ok-methods.ensures.ok c.in_err-sign-2.ensures.err))))

pub returns-clause-ok : goal.returns-clause-ok
unfolding w.interface
returns-clause-ok c = r.parses_at x.Interface _ c.line-line.ensures (r.behind c.in_ok-sign.ensures.ok (r.behind c.in_ok-name.ensures.ok (r.behind c.in_ok-bases.ensures.ok (r.behind c.in_ok-methods.ensures.ok c.in_ok-sign-2.ensures.ok))))
