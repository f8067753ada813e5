use Rattle.std.proofs.Common.{◌≡◌}
use Rattle.std.proofs.lemmas.Result.{err_from_is_err_and}
use Rattle.st_parser_decl.specs.Private.Rules as w
use Rattle.st_parser_decl.proofs.Steps as r
use Rattle.st_parser_decl.proofs.configuration.resource.Goals as goal

pub returns-in_err-sign-clause-err : goal.returns-in_err-sign-clause-err
unfolding w.resource
returns-in_err-sign-clause-err c = let p = err_from_is_err_and c.from_residual.result c.from_residual.ensures.1 in rw (p.1, p.2) (r.fails_here c.in_err-sign.ensures.err)

pub returns-in_err-own-clause-err : goal.returns-in_err-own-clause-err
unfolding w.resource
returns-in_err-own-clause-err c = let p = err_from_is_err_and c.from_residual-in_err-own.result c.from_residual-in_err-own.ensures.1 in rw (p.1, p.2) (r.fails_behind c.in_ok-sign.ensures.ok (r.fails_here c.in_err-own.ensures.err))

pub returns-in_err-sign-2-clause-err : goal.returns-in_err-sign-2-clause-err
unfolding w.resource
returns-in_err-sign-2-clause-err c = let p = err_from_is_err_and c.from_residual-in_err-sign-2.result c.from_residual-in_err-sign-2.ensures.1 in rw (p.1, p.2) (r.fails_behind c.in_ok-sign.ensures.ok (r.fails_behind c.in_ok-own.ensures.ok (r.fails_here c.in_err-sign-2.ensures.err)))

pub returns-in_err-processor-clause-err : goal.returns-in_err-processor-clause-err
unfolding w.resource
returns-in_err-processor-clause-err c = let p = err_from_is_err_and c.from_residual-in_err-processor.result c.from_residual-in_err-processor.ensures.1 in rw (p.1, p.2) (r.fails_behind c.in_ok-sign.ensures.ok (r.fails_behind c.in_ok-own.ensures.ok (r.fails_behind c.in_ok-sign-2.ensures.ok (r.fails_here c.in_err-processor.ensures.err))))

pub returns-in_err-globals-clause-err : goal.returns-in_err-globals-clause-err
unfolding w.resource
returns-in_err-globals-clause-err c = let p = err_from_is_err_and c.from_residual-in_err-globals.result c.from_residual-in_err-globals.ensures.1 in rw (p.1, p.2) (r.fails_behind c.in_ok-sign.ensures.ok (r.fails_behind c.in_ok-own.ensures.ok (r.fails_behind c.in_ok-sign-2.ensures.ok (r.fails_behind c.in_ok-processor.ensures.ok (r.fails_here c.in_err-globals.ensures.err)))))

pub returns-in_err-schedule-clause-err : goal.returns-in_err-schedule-clause-err
unfolding w.resource
returns-in_err-schedule-clause-err c = let p = err_from_is_err_and c.from_residual-in_err-schedule.result c.from_residual-in_err-schedule.ensures.1 in rw (p.1, p.2) (r.fails_behind c.in_ok-sign.ensures.ok (r.fails_behind c.in_ok-own.ensures.ok (r.fails_behind c.in_ok-sign-2.ensures.ok (r.fails_behind c.in_ok-processor.ensures.ok (r.fails_behind c.in_ok-globals.ensures.ok (r.fails_here c.in_err-schedule.ensures.err))))))

pub returns-in_err-sign-3-clause-err : goal.returns-in_err-sign-3-clause-err
unfolding w.resource
returns-in_err-sign-3-clause-err c = let p = err_from_is_err_and c.from_residual-in_err-sign-3.result c.from_residual-in_err-sign-3.ensures.1 in rw (p.1, p.2) (r.fails_behind c.in_ok-sign.ensures.ok (r.fails_behind c.in_ok-own.ensures.ok (r.fails_behind c.in_ok-sign-2.ensures.ok (r.fails_behind c.in_ok-processor.ensures.ok (r.fails_behind c.in_ok-globals.ensures.ok (r.fails_behind c.in_ok-schedule.ensures.ok c.in_err-sign-3.ensures.err))))))

pub returns-clause-ok : goal.returns-clause-ok
unfolding w.resource
returns-clause-ok c =
    let held : c.new-schedule.result ≡ c.in_ok-schedule.schedule = c.new-schedule.ensures in
    let taken : c.into_inner-schedule.result ≡ c.new-schedule.result = c.into_inner-schedule.ensures in
    rw (taken, held) (r.behind c.in_ok-sign.ensures.ok (r.behind c.in_ok-own.ensures.ok (r.behind c.in_ok-sign-2.ensures.ok (r.behind c.in_ok-processor.ensures.ok (r.behind c.in_ok-globals.ensures.ok (r.behind c.in_ok-schedule.ensures.ok c.in_ok-sign-3.ensures.ok))))))
