use Rattle.std.proofs.Common.{◌≡◌, refl}
use Rattle.std.proofs.lemmas.Result.{err_from_is_err_and}
use Rattle.st_parser_stmt.proofs.Rules as r
use Rattle.st_parser_stmt.proofs.statement.step.Goals as goal

pub returns-in_err-by-clause-err : goal.returns-in_err-by-clause-err
returns-in_err-by-clause-err c =
    let p = err_from_is_err_and c.from_residual.result c.from_residual.ensures.1 in
    rw (p.1, p.2) (r.by-fails c.args.tokens.now c.eat.new.tokens _ (c.if-eat.ensures.yes refl) c.in_err-by.ensures.err)

pub returns-in_ok-by-clause-ok : goal.returns-in_ok-by-clause-ok
returns-in_ok-by-clause-ok c =
    let e : c.into_inner-by.result ≡ c.in_ok-by.by = c.into_inner-by.ensures in
    rw e (r.reads-by _ _ _ _ (c.if-eat.ensures.yes refl) c.in_ok-by.ensures.ok)

pub returns-then-eat-2-clause-ok : goal.returns-then-eat-2-clause-ok
returns-then-eat-2-clause-ok c = r.reads-do _ _ (rw (c.if-eat.ensures.no refl) at (c.if-eat-2.ensures.yes refl))

pub returns-else-eat-2-clause-err : goal.returns-else-eat-2-clause-err
returns-else-eat-2-clause-err c = rw (c.left.ensures, c.if-eat-2.ensures.no refl, c.if-eat.ensures.no refl) (r.step-fails c.args.tokens.now (c.if-eat.ensures.not refl) (rw (c.if-eat.ensures.no refl) at (c.if-eat-2.ensures.not refl)))
