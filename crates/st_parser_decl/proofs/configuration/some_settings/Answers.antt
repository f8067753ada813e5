use Rattle.std.proofs.lemmas.Result.{err_from_is_err_and}
use Rattle.st_parser_decl.proofs.RuleForms as forms
use Rattle.st_parser_decl.proofs.Steps as r
use Rattle.st_parser_decl.proofs.configuration.some_settings.Goals as goal

pub returns-in_err-first-clause-err : goal.returns-in_err-first-clause-err
returns-in_err-first-clause-err c = let p = err_from_is_err_and c.from_residual.result c.from_residual.ensures.1 in rw (p.1, p.2) (r.fails_here c.in_err-first.ensures.err)

pub loop-alloc-init : goal.loop-alloc-init
loop-alloc-init c = rw (c.in_ok-push.ensures.ok, c.new-found.ensures) (r.list_first c.in_ok-first.first c.in_ok-first.ensures.ok)

pub returns-in_err-one-clause-err : goal.returns-in_err-one-clause-err
returns-in_err-one-clause-err c = let p = err_from_is_err_and c.from_residual-in_err-one.result c.from_residual-in_err-one.ensures.1 in rw (p.1, p.2) (r.list_fails c.loop-alloc.found c.loop-alloc.invariant (c.eat.ensures.yes c.loop-alloc-test.true) c.in_err-one.ensures.err)

pub loop-alloc-preserved : goal.loop-alloc-preserved
loop-alloc-preserved c = rw c.in_ok-push-2.ensures.ok (r.list_pushed c.loop-alloc.found c.in_ok-one.one c.loop-alloc.invariant (c.eat.ensures.yes c.loop-alloc-test.true) c.in_ok-one.ensures.ok)

pub returns-clause-ok : goal.returns-clause-ok
returns-clause-ok c = rw (c.eat.ensures.no c.loop-alloc-test.false) (r.as_phrase (forms.to-some_settings c.loop-alloc.found _ _) (r.list_read c.loop-alloc.found c.loop-alloc.invariant (c.eat.ensures.not c.loop-alloc-test.false)))
