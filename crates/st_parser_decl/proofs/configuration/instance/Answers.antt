use Rattle.std.proofs.lemmas.Result.{err_from_is_err_and}
use Rattle.st_tree.specs.declared.terminal.Terminal.TheVariants as x
use Rattle.st_parser_decl.specs.Private.Rules as w
use Rattle.st_parser_decl.proofs.Steps as r
use Rattle.st_parser_decl.proofs.configuration.instance.Goals as goal

pub returns-in_err-sign-clause-err : goal.returns-in_err-sign-clause-err
unfolding w.instance
returns-in_err-sign-clause-err c = let p = err_from_is_err_and c.from_residual.result c.from_residual.ensures.1 in rw (p.1, p.2) (r.fails_here c.in_err-sign.ensures.err)

pub returns-in_err-own-clause-err : goal.returns-in_err-own-clause-err
unfolding w.instance
returns-in_err-own-clause-err c = let p = err_from_is_err_and c.from_residual-in_err-own.result c.from_residual-in_err-own.ensures.1 in rw (p.1, p.2) (r.fails_behind c.in_ok-sign.ensures.ok (r.fails_here c.in_err-own.ensures.err))

pub returns-in_err-sign-2-clause-err : goal.returns-in_err-sign-2-clause-err
unfolding w.instance
returns-in_err-sign-2-clause-err c = let p = err_from_is_err_and c.from_residual-in_err-sign-2.result c.from_residual-in_err-sign-2.ensures.1 in rw (p.1, p.2) (r.fails_behind c.in_ok-sign.ensures.ok (r.fails_behind c.in_ok-own.ensures.ok (r.fails_here c.in_err-sign-2.ensures.err)))

pub returns-in_err-task-clause-err : goal.returns-in_err-task-clause-err
unfolding w.instance
returns-in_err-task-clause-err c = let p = err_from_is_err_and c.from_residual-in_err-task.result c.from_residual-in_err-task.ensures.1 in rw (p.1, p.2) (r.fails_behind c.in_ok-sign.ensures.ok (r.fails_behind c.in_ok-own.ensures.ok (r.fails_behind c.in_ok-sign-2.ensures.ok (r.fails_here c.in_err-task.ensures.err))))

pub returns-in_err-sign-3-clause-err : goal.returns-in_err-sign-3-clause-err
unfolding w.instance
returns-in_err-sign-3-clause-err c = let p = err_from_is_err_and c.from_residual-in_err-sign-3.result c.from_residual-in_err-sign-3.ensures.1 in rw (p.1, p.2) (r.fails_behind c.in_ok-sign.ensures.ok (r.fails_behind c.in_ok-own.ensures.ok (r.fails_behind c.in_ok-sign-2.ensures.ok (r.fails_behind c.in_ok-task.ensures.ok (r.fails_here c.in_err-sign-3.ensures.err)))))

pub returns-in_err-program-clause-err : goal.returns-in_err-program-clause-err
unfolding w.instance
returns-in_err-program-clause-err c = let p = err_from_is_err_and c.from_residual-in_err-program.result c.from_residual-in_err-program.ensures.1 in rw (p.1, p.2) (r.fails_behind c.in_ok-sign.ensures.ok (r.fails_behind c.in_ok-own.ensures.ok (r.fails_behind c.in_ok-sign-2.ensures.ok (r.fails_behind c.in_ok-task.ensures.ok (r.fails_behind c.in_ok-sign-3.ensures.ok (r.fails_here c.in_err-program.ensures.err))))))

pub returns-in_err-sign-4-clause-err : goal.returns-in_err-sign-4-clause-err
unfolding w.instance
returns-in_err-sign-4-clause-err c = let p = err_from_is_err_and c.from_residual-in_err-sign-4.result c.from_residual-in_err-sign-4.ensures.1 in rw (p.1, p.2) (r.fails_behind c.in_ok-sign.ensures.ok (r.fails_behind c.in_ok-own.ensures.ok (r.fails_behind c.in_ok-sign-2.ensures.ok (r.fails_behind c.in_ok-task.ensures.ok (r.fails_behind c.in_ok-sign-3.ensures.ok (r.fails_behind c.in_ok-program.ensures.ok c.in_err-sign-4.ensures.err))))))

pub returns-clause-ok : goal.returns-clause-ok
unfolding w.instance
returns-clause-ok c = r.parses_at x.Program _ c.line-line.ensures (r.behind c.in_ok-sign.ensures.ok (r.behind c.in_ok-own.ensures.ok (r.behind c.in_ok-sign-2.ensures.ok (r.behind c.in_ok-task.ensures.ok (r.behind c.in_ok-sign-3.ensures.ok (r.behind c.in_ok-program.ensures.ok c.in_ok-sign-4.ensures.ok))))))
