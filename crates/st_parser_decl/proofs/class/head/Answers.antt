use Rattle.std.proofs.lemmas.Result.{err_from_is_err_and}
use Rattle.st_parser_decl.specs.Private.Rules as w
use Rattle.st_parser_decl.proofs.Steps as r
use Rattle.st_parser_decl.proofs.class.head.Goals as goal

pub returns-in_err-modifiers-clause-err : goal.returns-in_err-modifiers-clause-err
unfolding w.head w.class_words
returns-in_err-modifiers-clause-err c = let p = err_from_is_err_and c.from_residual.result c.from_residual.ensures.1 in rw (p.1, p.2) (r.fails_here c.in_err-modifiers.ensures.err)

pub returns-in_err-name-clause-err : goal.returns-in_err-name-clause-err
unfolding w.head w.class_words
returns-in_err-name-clause-err c = let p = err_from_is_err_and c.from_residual-in_err-name.result c.from_residual-in_err-name.ensures.1 in rw (p.1, p.2) (r.fails_behind c.in_ok-modifiers.ensures.ok (r.fails_here c.in_err-name.ensures.err))

pub returns-in_err-base-clause-err : goal.returns-in_err-base-clause-err
unfolding w.head w.class_words
returns-in_err-base-clause-err c = let p = err_from_is_err_and c.from_residual-in_err-base.result c.from_residual-in_err-base.ensures.1 in rw (p.1, p.2) (r.fails_behind c.in_ok-modifiers.ensures.ok (r.fails_behind c.in_ok-name.ensures.ok (r.fails_here c.in_err-base.ensures.err)))

pub returns-in_err-interfaces-clause-err : goal.returns-in_err-interfaces-clause-err
unfolding w.head w.class_words
returns-in_err-interfaces-clause-err c = let p = err_from_is_err_and c.from_residual-in_err-interfaces.result c.from_residual-in_err-interfaces.ensures.1 in rw (p.1, p.2) (r.fails_behind c.in_ok-modifiers.ensures.ok (r.fails_behind c.in_ok-name.ensures.ok (r.fails_behind c.in_ok-base.ensures.ok c.in_err-interfaces.ensures.err)))

pub returns-clause-ok : goal.returns-clause-ok
unfolding w.head w.class_words
returns-clause-ok c = r.behind c.in_ok-modifiers.ensures.ok (r.behind c.in_ok-name.ensures.ok (r.behind c.in_ok-base.ensures.ok c.in_ok-interfaces.ensures.ok))
