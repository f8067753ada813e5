use Rattle.std.proofs.Common.{refl}
use Rattle.std.proofs.lemmas.Result.{err_from_is_err_and}
use Rattle.st_tree.specs.declared.terminal.Terminal.TheVariants as x
use Rattle.st_tree.specs.Statement as view
use Rattle.st_parser_stmt.proofs.Rules as r
use Rattle.st_parser_stmt.proofs.statement.jump.Goals as goal

pub returns-in_err-sign-clause-err : goal.returns-in_err-sign-clause-err
returns-in_err-sign-clause-err c =
    let p = err_from_is_err_and c.from_residual.result c.from_residual.ensures.1 in
    rw (p.1, p.2) (r.jump-fails x.Exit (λ K. refl) c.args.tokens.now _ _ (c.if-eat.ensures.yes refl) c.in_err-sign.ensures.err)

pub returns-then-eat-clause-ok : goal.returns-then-eat-clause-ok
returns-then-eat-clause-ok c = r.stated _ _ _ _ (view.statement_of-Exit _) (r.reads-jump x.Exit (λ K. refl) view.Exit _ (λ ts rest a h. (a, h)) _ _ _ c.line-line.ensures (c.if-eat.ensures.yes refl) c.in_ok-sign.ensures.ok)

pub returns-in_err-sign-2-clause-err : goal.returns-in_err-sign-2-clause-err
returns-in_err-sign-2-clause-err c =
    let p = err_from_is_err_and c.from_residual-in_err-sign-2.result c.from_residual-in_err-sign-2.ensures.1 in
    rw (p.1, p.2) (r.jump-fails x.Continue (λ K. refl) c.args.tokens.now _ _ (rw (c.if-eat.ensures.no refl) at (c.if-eat-2.ensures.yes refl)) c.in_err-sign-2.ensures.err)

pub returns-then-eat-2-clause-ok : goal.returns-then-eat-2-clause-ok
returns-then-eat-2-clause-ok c = r.stated _ _ _ _ (view.statement_of-Continue _) (r.reads-jump x.Continue (λ K. refl) view.Continue _ (λ ts rest a h. (a, h)) _ _ _ c.line-line.ensures (rw (c.if-eat.ensures.no refl) at (c.if-eat-2.ensures.yes refl)) c.in_ok-sign-2.ensures.ok)

pub returns-in_err-sign-3-clause-err : goal.returns-in_err-sign-3-clause-err
returns-in_err-sign-3-clause-err c =
    let p = err_from_is_err_and c.from_residual-in_err-sign-3.result c.from_residual-in_err-sign-3.ensures.1 in
    rw (p.1, p.2) (r.jump-fails x.Return (λ K. refl) c.args.tokens.now _ _ (rw (c.if-eat-2.ensures.no refl, c.if-eat.ensures.no refl) at (c.if-eat-3.ensures.yes refl)) c.in_err-sign-3.ensures.err)

pub returns-then-eat-3-clause-ok : goal.returns-then-eat-3-clause-ok
returns-then-eat-3-clause-ok c = r.stated _ _ _ _ (view.statement_of-Return _) (r.reads-jump x.Return (λ K. refl) view.Return _ (λ ts rest a h. (a, h)) _ _ _ c.line-line.ensures (rw (c.if-eat-2.ensures.no refl, c.if-eat.ensures.no refl) at (c.if-eat-3.ensures.yes refl)) c.in_ok-sign-3.ensures.ok)
