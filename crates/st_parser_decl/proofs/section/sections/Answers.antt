use Rattle.std.proofs.Common.{refl}
use Rattle.std.proofs.lemmas.Result.{err_from_is_err_and}
use Rattle.st_parser_decl.specs.Private.Rules as w
use Rattle.st_parser_decl.proofs.Steps as r
use Rattle.st_parser_decl.proofs.section.sections.Goals as goal

pub returns-in_err-one-clause-err : goal.returns-in_err-one-clause-err
unfolding w.sections w.vars
returns-in_err-one-clause-err c = let p = err_from_is_err_and c.from_residual.result c.from_residual.ensures.1 in rw (p.1, p.2) (r.each_stops c.loop-found.found c.loop-found.invariant refl c.in_err-one.ensures.err)

pub loop-found-smaller : goal.loop-found-smaller
unfolding w.vars
loop-found-smaller c = let h = rw c.in-Some.is at c.in_ok-one.ensures.ok in r.parses_strictly refl h.1

pub loop-found-preserved : goal.loop-found-preserved
unfolding w.vars
loop-found-preserved c = let h = rw c.in-Some.is at c.in_ok-one.ensures.ok in rw c.in_ok-push.ensures.ok (r.each_pushed c.loop-found.found c.in-Some.one c.loop-found.invariant refl h.0 h.1)

pub returns-clause-ok : goal.returns-clause-ok
unfolding w.sections
returns-clause-ok c = let h = rw c.in_default.is at c.in_ok-one.ensures.ok in rw h.0 (r.each_read c.loop-found.found c.loop-found.invariant h.1)
