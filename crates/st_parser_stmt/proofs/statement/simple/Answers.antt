use Rattle.std.proofs.Common.{rules, false, ◌≡◌, ◌∙◌, Some, refl}
use Rattle.std.proofs.lemmas.Result.{err_from_is_err_and}
use Rattle.st_tree.specs.declared.terminal.Terminal.TheVariants as x
use Rattle.st_tree.specs.Statement as view
use Rattle.st_parser_expr.specs.Private.Promises.{next_terminal}
use Rattle.st_parser_stmt.specs.Private.Promises.{is_behind_place}
use Rattle.st_parser_stmt.proofs.Rules as r
use Rattle.st_parser_stmt.proofs.statement.simple.Goals as goal

pub returns-in_err-value-in-Some-Assign-clause-err : goal.returns-in_err-value-in-Some-Assign-clause-err
returns-in_err-value-in-Some-Assign-clause-err c =
    let next : next_terminal c.place.new.tokens ≡ Some x.Assign = cc in
    let p = err_from_is_err_and c.from_residual-in_err-value-in-Some-Assign.result c.from_residual-in_err-value-in-Some-Assign.ensures.1 in
    rw (p.1, p.2) (r.valued-fails x.Assign (λ K. refl) _ _ c.args.tokens.now c.place.new.tokens c.bump.new.self _ c.in_ok-place.ensures.ok next c.bump.ensures c.in_err-value-in-Some-Assign.ensures.err)

pub returns-in_err-value-in-Some-Attempt-clause-err : goal.returns-in_err-value-in-Some-Attempt-clause-err
returns-in_err-value-in-Some-Attempt-clause-err c =
    let next : next_terminal c.place.new.tokens ≡ Some x.Attempt = cc in
    let p = err_from_is_err_and c.from_residual-in_err-value-in-Some-Attempt.result c.from_residual-in_err-value-in-Some-Attempt.ensures.1 in
    rw (p.1, p.2) (r.valued-fails x.Attempt (λ K. refl) _ _ c.args.tokens.now c.place.new.tokens c.bump-in-Some-Attempt.new.self _ c.in_ok-place.ensures.ok next c.bump-in-Some-Attempt.ensures c.in_err-value-in-Some-Attempt.ensures.err)

pub returns-in_err-arguments-in-Some-Open-clause-err : goal.returns-in_err-arguments-in-Some-Open-clause-err
returns-in_err-arguments-in-Some-Open-clause-err c =
    let next : next_terminal c.place.new.tokens ≡ Some x.Open = cc in
    let p = err_from_is_err_and c.from_residual-in_err-arguments-in-Some-Open.result c.from_residual-in_err-arguments-in-Some-Open.ensures.1 in
    rw (p.1, p.2) (r.call-fails _ _ c.args.tokens.now c.place.new.tokens c.bump-in-Some-Open.new.self _ c.in_ok-place.ensures.ok next c.bump-in-Some-Open.ensures c.in_err-arguments-in-Some-Open.ensures.err)

pub returns-in_err-sign-in-Some-Open-clause-err : goal.returns-in_err-sign-in-Some-Open-clause-err
returns-in_err-sign-in-Some-Open-clause-err c =
    let next : next_terminal c.place.new.tokens ≡ Some x.Open = cc in
    let p = err_from_is_err_and c.from_residual-in_err-sign-in-Some-Open.result c.from_residual-in_err-sign-in-Some-Open.ensures.1 in
    rw (p.1, p.2) (r.called-fails _ _ _ c.args.tokens.now c.place.new.tokens c.bump-in-Some-Open.new.self c.arguments.new.tokens _ c.in_ok-place.ensures.ok next c.bump-in-Some-Open.ensures c.in_ok-arguments-in-Some-Open.ensures.ok c.in_err-sign-in-Some-Open.ensures.err)

pub returns-in_ok-value-in-Some-Assign-clause-ok : goal.returns-in_ok-value-in-Some-Assign-clause-ok
returns-in_ok-value-in-Some-Assign-clause-ok c =
    let next : next_terminal c.place.new.tokens ≡ Some x.Assign = cc in
    let e : c.into_inner-value.result ≡ c.in_ok-value-in-Some-Assign.value = c.into_inner-value.ensures in
    let p : c.into_inner-place.result ≡ c.in_ok-place.place = c.into_inner-place.ensures ∙ c.new-place.ensures in
    rw (p, e) (r.stated _ _ _ _ (view.statement_of-Assign _ _ _ _) (r.reads-assign _ _ _ _ _ _ _ _ c.line-line.ensures c.in_ok-place.ensures.ok next c.bump.ensures c.in_ok-value-in-Some-Assign.ensures.ok))

pub returns-in_ok-value-in-Some-Attempt-clause-ok : goal.returns-in_ok-value-in-Some-Attempt-clause-ok
returns-in_ok-value-in-Some-Attempt-clause-ok c =
    let next : next_terminal c.place.new.tokens ≡ Some x.Attempt = cc in
    let e : c.into_inner-value-in-Some-Attempt.result ≡ c.in_ok-value-in-Some-Attempt.value = c.into_inner-value-in-Some-Attempt.ensures in
    let p : c.into_inner-place-in-Some-Attempt.result ≡ c.in_ok-place.place = c.into_inner-place-in-Some-Attempt.ensures ∙ c.new-place.ensures in
    rw (p, e) (r.stated _ _ _ _ (view.statement_of-Attempt _ _ _ _) (r.reads-attempt _ _ _ _ _ _ _ _ c.line-line.ensures c.in_ok-place.ensures.ok next c.bump-in-Some-Attempt.ensures c.in_ok-value-in-Some-Attempt.ensures.ok))

pub returns-in_ok-sign-in-Some-Open-clause-ok : goal.returns-in_ok-sign-in-Some-Open-clause-ok
returns-in_ok-sign-in-Some-Open-clause-ok c =
    let next : next_terminal c.place.new.tokens ≡ Some x.Open = cc in
    let p : c.into_inner-place-in-Some-Open.result ≡ c.in_ok-place.place = c.into_inner-place-in-Some-Open.ensures ∙ c.new-place.ensures in
    rw p (r.stated _ _ _ _ (view.statement_of-Call _ _ _ _) (r.reads-call _ _ _ _ _ _ _ _ _ c.line-line.ensures c.in_ok-place.ensures.ok next c.bump-in-Some-Open.ensures c.in_ok-arguments-in-Some-Open.ensures.ok c.in_ok-sign-in-Some-Open.ensures.ok))

pub returns-in_default-clause-err : goal.returns-in_default-clause-err
returns-in_default-clause-err c =
    let free : is_behind_place (next_terminal c.place.new.tokens) ≡ false = search rules in
    rw c.left.ensures (r.place-default _ _ c.args.tokens.now c.place.new.tokens c.in_ok-place.ensures.ok free)
