use Rattle.std.proofs.lemmas.Result.{err_from_is_err_and}
use Rattle.std.proofs.Common.{refl}
use Rattle.st_parser_stmt.proofs.Rules as r
use Rattle.st_parser_stmt.proofs.label.label.Goals as goal

pub returns-in_err-first-clause-err : goal.returns-in_err-first-clause-err
returns-in_err-first-clause-err c =
    let p = err_from_is_err_and c.from_residual.result c.from_residual.ensures.1 in
    rw (p.1, p.2) (r.label-fails c.args.tokens.now _ c.in_err-first.ensures.err)

pub returns-in_err-constant-clause-err : goal.returns-in_err-constant-clause-err
returns-in_err-constant-clause-err c =
    let p = err_from_is_err_and c.from_residual-in_err-constant.result c.from_residual-in_err-constant.ensures.1 in
    rw (p.1, p.2) (r.label-range-fails _ c.args.tokens.now c.constant.new.tokens c.eat.new.tokens _ c.in_ok-first.ensures.ok (c.if-eat.ensures.yes refl) c.in_err-constant.ensures.err)

pub returns-in_ok-constant-clause-ok : goal.returns-in_ok-constant-clause-ok
returns-in_ok-constant-clause-ok c = r.reads-label_range _ _ _ _ _ _ c.in_ok-first.ensures.ok (c.if-eat.ensures.yes refl) c.in_ok-constant.ensures.ok

pub returns-else-eat-clause-ok : goal.returns-else-eat-clause-ok
returns-else-eat-clause-ok c = rw (c.if-eat.ensures.no refl) (r.reads-label _ _ _ c.in_ok-first.ensures.ok (c.if-eat.ensures.not refl))
