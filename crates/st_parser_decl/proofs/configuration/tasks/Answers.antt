use Rattle.std.proofs.lemmas.Result.{err_from_is_err_and}
use Rattle.st_parser_decl.specs.Private.Rules as w
use Rattle.st_parser_decl.proofs.Steps as r
use Rattle.st_parser_decl.proofs.configuration.tasks.Goals as goal

pub returns-in_err-tasks-clause-err : goal.returns-in_err-tasks-clause-err
unfolding w.tasks
returns-in_err-tasks-clause-err c = let p = err_from_is_err_and c.from_residual.result c.from_residual.ensures.1 in rw (p.1, p.2) (r.fails_here c.in_err-tasks.ensures.err)

pub returns-in_err-instances-clause-err : goal.returns-in_err-instances-clause-err
unfolding w.tasks
returns-in_err-instances-clause-err c = let p = err_from_is_err_and c.from_residual-in_err-instances.result c.from_residual-in_err-instances.ensures.1 in rw (p.1, p.2) (r.fails_behind c.in_ok-tasks.ensures.ok c.in_err-instances.ensures.err)

pub returns-clause-ok : goal.returns-clause-ok
unfolding w.tasks
returns-clause-ok c = r.behind c.in_ok-tasks.ensures.ok c.in_ok-instances.ensures.ok
