use Rattle.std.proofs.lemmas.Result.{err_from_is_err_and}
use Rattle.st_tree.specs.Expression.{place_of-is}
use Rattle.st_parser_stmt.proofs.Rules as r
use Rattle.st_parser_stmt.proofs.leaf.place.Goals as goal

pub returns-in_err-root-clause-err : goal.returns-in_err-root-clause-err
returns-in_err-root-clause-err c =
    let p = err_from_is_err_and c.from_residual.result c.from_residual.ensures.1 in
    rw (p.1, p.2) (r.root-fails c.args.tokens.now _ c.requires c.in_err-root.ensures.err)

pub returns-in_err-selectors-clause-err : goal.returns-in_err-selectors-clause-err
returns-in_err-selectors-clause-err c =
    let p = err_from_is_err_and c.from_residual-in_err-selectors.result c.from_residual-in_err-selectors.ensures.1 in
    rw (p.1, p.2) (r.place-fails _ c.args.tokens.now c.root.new.tokens _ c.in_ok-root.ensures.ok c.in_err-selectors.ensures.err)

pub returns-clause-ok : goal.returns-clause-ok
returns-clause-ok c = rw place_of-is (r.reads-place _ _ _ _ _ c.in_ok-root.ensures.ok c.in_ok-selectors.ensures.ok c.in_ok-selectors.ensures.ends)
