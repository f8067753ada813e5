use Rattle.std.proofs.lemmas.Result.{err_from_is_err_and}
use Rattle.st_parser_decl.proofs.Whole as t
use Rattle.st_parser_decl.proofs.reading.whole.Goals as goal

pub returns-in_err-decls-clause-err : goal.returns-in_err-decls-clause-err
returns-in_err-decls-clause-err c =
    let p = err_from_is_err_and c.from_residual.result c.from_residual.ensures.1 in
    let failed = rw c.new-tokens.ensures at c.in_err-decls.ensures.err in
    rw (p.1, p.2) (t.failed _ _ failed)

pub returns-then-left-gt0-clause-err : goal.returns-then-left-gt0-clause-err
returns-then-left-gt0-clause-err c =
    let read = rw c.new-tokens.ensures at c.in_ok-decls.ensures.ok in
    let some = rw c.left-left.ensures at c.if-left-gt0.true in
    rw c.left-left.ensures (t.left_over _ _ _ read some)
