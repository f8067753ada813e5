use Rattle.std.proofs.Common.{◌≡◌}
use Rattle.std.proofs.lemmas.Result.{err_from_is_err_and}
use Rattle.st_parser_decl.specs.Private.Rules as w
use Rattle.st_parser_decl.proofs.Steps as r
use Rattle.st_parser_decl.proofs.types.range.Goals as goal

pub returns-in_err-low-clause-err : goal.returns-in_err-low-clause-err
unfolding w.range
returns-in_err-low-clause-err c = let p = err_from_is_err_and c.from_residual.result c.from_residual.ensures.1 in rw (p.1, p.2) (r.fails_here c.in_err-low.ensures.err)

pub returns-in_err-sign-clause-err : goal.returns-in_err-sign-clause-err
unfolding w.range
returns-in_err-sign-clause-err c = let p = err_from_is_err_and c.from_residual-in_err-sign.result c.from_residual-in_err-sign.ensures.1 in rw (p.1, p.2) (r.fails_behind c.in_ok-low.ensures.ok (r.fails_here c.in_err-sign.ensures.err))

pub returns-in_err-high-clause-err : goal.returns-in_err-high-clause-err
unfolding w.range
returns-in_err-high-clause-err c = let p = err_from_is_err_and c.from_residual-in_err-high.result c.from_residual-in_err-high.ensures.1 in rw (p.1, p.2) (r.fails_behind c.in_ok-low.ensures.ok (r.fails_behind c.in_ok-sign.ensures.ok c.in_err-high.ensures.err))

pub returns-clause-ok : goal.returns-clause-ok
unfolding w.range
returns-clause-ok c =
    let held_low : c.new-low.result ≡ c.in_ok-low.low = c.new-low.ensures in
    let low : c.into_inner-low.result ≡ c.new-low.result = c.into_inner-low.ensures in
    rw (low, held_low) (r.behind c.in_ok-low.ensures.ok (r.behind c.in_ok-sign.ensures.ok c.in_ok-high.ensures.ok))
